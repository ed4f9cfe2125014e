-- A port is found by its name.
use Rattle.std.proofs.Common.{◌≡◌, ℕ, zero, suc, ◌+◌, Bool, true, false, not, ◌&&◌, List, [], ◌∷◌, slice_get, Option, Some, refl, sym, ap, ◌∙◌, subst, arith, if◌then◌else◌}
use Rattle.std.proofs.lemmas.Bool.{and_parts, or_parts}
use Rattle.std.proofs.lemmas.Slice.Eq.{bytes_eq-Decides}
use Rattle.std.specs.List.{list_any}
use Rattle.std.specs.Str.{bytes_eq}
use Rattle.cv_calc.specs.declared.kind.CalcKind.{CalcKind}
use Rattle.cv_calc.specs.declared.kind.CalcKind.TheVariants as calc
use Rattle.cv_flow.specs.declared.kind.FlowKind.{FlowKind}
use Rattle.cv_flow.specs.declared.kind.FlowKind.TheVariants as flow
use Rattle.cv_kinds.specs.declared.kind.Kind.{Kind}
use Rattle.cv_kinds.specs.declared.kind.Kind.TheVariants as kind
use Rattle.cv_kinds.specs.Table.{line_of, flow_line, calc_line}
use Rattle.cv_kinds.specs.Names.{inport_named, outport_named, place_from}

-- no name equals one behind it
abbrev are_apart : List (List ℕ) → Bool
are_apart [] = true
are_apart (n ∷ ns) = not (list_any (bytes_eq n) ns) && are_apart ns

not_there : (b : Bool) → not b ≡ true → b ≡ false
not_there true e = cc
not_there false e = refl

none_at : (p : List ℕ → Bool) (ns : List (List ℕ)) (i : ℕ) (n : List ℕ) → list_any p ns ≡ false → slice_get ns i ≡ Some n → p n ≡ false
none_at p [] i n none e = cc
none_at p (m ∷ ns) zero n none e = let same : m ≡ n = cc in subst (λ (x : List ℕ). p x ≡ false) same (or_parts (p m) (list_any p ns) none).0
none_at p (m ∷ ns) (suc i) n none e = none_at p ns i n (or_parts (p m) (list_any p ns) none).1 e

here : (b : Bool) (i : ℕ) (rest : Option ℕ) → b ≡ true → (if b then Some i else rest) ≡ Some (i + 0)
here true i rest e = ap Some (omega arith)
here false i rest e = cc

later : (b c : Bool) (i n : ℕ) (rest : Option ℕ) → c ≡ false → (b ≡ true → c ≡ true) → rest ≡ Some (suc i + n) → (if b then Some i else rest) ≡ Some (i + suc n)
later true c i n rest e h r = let clash : true ≡ false = sym (h refl) ∙ e in cc
later false c i n rest e h r = r ∙ ap Some (omega arith)

place_at : (i : ℕ) (names : List (List ℕ)) (n : ℕ) (name : List ℕ) → are_apart names ≡ true → slice_get names n ≡ Some name → place_from i names name ≡ Some (i + n)
place_at i [] n name apart e = cc
place_at i (m ∷ ms) zero name apart e =
    let same : m ≡ name = cc in
    here (bytes_eq name m) i (place_from (suc i) ms name) ((bytes_eq-Decides name m).1 (sym same))
place_at i (m ∷ ms) (suc n) name apart e =
    let h = and_parts _ _ apart in
    let other = none_at (bytes_eq m) ms n name (not_there _ h.0) e in
    later (bytes_eq name m) (bytes_eq m name) i n (place_from (suc i) ms name) other (λ b. (bytes_eq-Decides m name).1 (sym ((bytes_eq-Decides name m).0 b))) (place_at (suc i) ms n name h.1 e)

flow_inports : (k : FlowKind) → are_apart (flow_line k).inports ≡ true
flow_inports flow.Constant = refl
flow_inports k = refl

calc_inports : (k : CalcKind) → are_apart (calc_line k).inports ≡ true
calc_inports calc.Add = refl
calc_inports k = refl

inports_apart : (k : Kind) → are_apart (line_of k).inports ≡ true
unfolding line_of
inports_apart (kind.Flow k) = flow_inports k
inports_apart (kind.Calc k) = calc_inports k

flow_outports : (k : FlowKind) → are_apart (flow_line k).outports ≡ true
flow_outports flow.Constant = refl
flow_outports k = refl

calc_outports : (k : CalcKind) → are_apart (calc_line k).outports ≡ true
calc_outports calc.Add = refl
calc_outports k = refl

outports_apart : (k : Kind) → are_apart (line_of k).outports ≡ true
unfolding line_of
outports_apart (kind.Flow k) = flow_outports k
outports_apart (kind.Calc k) = calc_outports k

pub inport_at : (k : Kind) (n : ℕ) (name : List ℕ) → slice_get (line_of k).inports n ≡ Some name → inport_named k name ≡ Some n
inport_at k n name e = place_at 0 (line_of k).inports n name (inports_apart k) e ∙ ap Some (omega arith)

pub outport_at : (k : Kind) (n : ℕ) (name : List ℕ) → slice_get (line_of k).outports n ≡ Some name → outport_named k name ≡ Some n
outport_at k n name e = place_at 0 (line_of k).outports n name (outports_apart k) e ∙ ap Some (omega arith)
