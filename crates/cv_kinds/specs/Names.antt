-- The names of the kinds and of their ports.
use Rattle.std.specs.Prelude.{ℕ, suc, List, [], ◌∷◌, Option, Some, None, if◌then◌else◌}
use Rattle.std.specs.Str.{bytes_eq}
use Rattle.cv_calc.specs.declared.kind.CalcKind.TheVariants as calc
use Rattle.cv_flow.specs.declared.kind.FlowKind.TheVariants as flow
use Rattle.cv_kinds.specs.declared.kind.Kind.{Kind}
use Rattle.cv_kinds.specs.declared.kind.Kind.TheVariants as kind
use Rattle.cv_kinds.specs.Table.{line_of}

-- all kinds, in the order of the table
abbrev pub all_kinds : List Kind
all_kinds =
    kind.Flow flow.Constant ∷ kind.Flow flow.Counter ∷ kind.Flow flow.CountTimer ∷ kind.Flow flow.Identity ∷
    kind.Flow flow.Sequence ∷ kind.Flow flow.Trigger ∷ kind.Flow flow.Delay ∷ kind.Flow flow.Sum ∷
    kind.Flow flow.Tally ∷ kind.Flow flow.Print ∷ kind.Flow flow.Terminator ∷ kind.Flow flow.Init ∷
    kind.Flow flow.Join ∷ kind.Flow flow.Alternate2 ∷ kind.Flow flow.Alternate3 ∷ kind.Flow flow.Dealternate2 ∷
    kind.Flow flow.Select ∷ kind.Flow flow.Switch ∷ kind.Flow flow.Batch ∷ kind.Flow flow.Unbatch ∷
    kind.Flow flow.Take ∷ kind.Flow flow.Skip ∷ kind.Flow flow.Every ∷ kind.Flow flow.Valve ∷
    kind.Flow flow.Zip ∷ kind.Flow flow.Unzip ∷ kind.Flow flow.Change ∷ kind.Calc calc.Add ∷
    kind.Calc calc.Subtract ∷ kind.Calc calc.Multiply ∷ kind.Calc calc.Divide ∷ kind.Calc calc.Modulo ∷
    kind.Calc calc.Compare ∷ kind.Calc calc.Concat ∷ kind.Calc calc.Length ∷ kind.Calc calc.Prefix ∷
    kind.Calc calc.JsonText ∷ kind.Calc calc.JsonParse ∷ kind.Calc calc.JsonGet ∷ kind.Calc calc.Not ∷ []

-- the first of these kinds that has the name
abbrev pub first_named : List Kind → List ℕ → Option Kind
first_named [] n = None
first_named (k ∷ ks) n = if bytes_eq n (line_of k).name then Some k else first_named ks n

-- the kind of a name
unfoldable pub kind_named : List ℕ → Option Kind
kind_named n = first_named all_kinds n

-- the place of a name in a list of names, from a first number on
abbrev pub place_from : ℕ → List (List ℕ) → List ℕ → Option ℕ
place_from i [] n = None
place_from i (m ∷ ms) n = if bytes_eq n m then Some i else place_from (suc i) ms n

abbrev pub inport_named : Kind → List ℕ → Option ℕ
inport_named k n = place_from 0 (line_of k).inports n

abbrev pub outport_named : Kind → List ℕ → Option ℕ
outport_named k n = place_from 0 (line_of k).outports n
