-- What holds of the lines of the table: each name is one kind's, and each line has the ports of its row.
use Rattle.std.proofs.Common.{◌≡◌, ◌≤◌, ◌<◌, ◌+◌, suc, arith, ℕ, Bool, true, false, List, [], ◌∷◌, map, length, Option, Some, None, IfSome, refl, sym, ap, ◌∙◌, lit≤, if◌then◌else◌}
use Rattle.std.proofs.lemmas.List.{length-map}
use Rattle.std.proofs.lemmas.Slice.Eq.{bytes_eq-Decides}
use Rattle.std.specs.Str.{bytes_eq}
use Rattle.cv_calc.specs.declared.kind.CalcKind.{CalcKind}
use Rattle.cv_calc.specs.declared.kind.CalcKind.TheVariants as calc
use Rattle.cv_flow.specs.declared.kind.FlowKind.{FlowKind}
use Rattle.cv_flow.specs.declared.kind.FlowKind.TheVariants as flow
use Rattle.cv_flow.specs.Rows.{row_of as flow_row}
use Rattle.cv_calc.specs.Rows.{row_of as calc_row}
use Rattle.cv_kinds.specs.declared.kind.Kind.{Kind}
use Rattle.cv_kinds.specs.declared.kind.Kind.TheVariants as kind
use Rattle.cv_kinds.specs.KindRow.{row_of}
use Rattle.cv_kinds.specs.Table.{line_of, flow_line, calc_line}
use Rattle.cv_kinds.specs.Names.{all_kinds, first_named, inport_named, outport_named, place_from}

-- ---- names

here_or_later : (b : Bool) (k other : Kind) (rest : Option Kind) (P : Type 0) → (if b then Some k else rest) ≡ Some other → (b ≡ true → k ≡ other → P) → (rest ≡ Some other → P) → P
here_or_later true k other rest P e here later = here refl (cc)
here_or_later false k other rest P e here later = later e

first_has : (ks : List Kind) (n : List ℕ) (other : Kind) → first_named ks n ≡ Some other → (line_of other).name ≡ n
first_has [] n other e = cc
first_has (k ∷ ks) n other e =
    here_or_later (bytes_eq n (line_of k).name) k other (first_named ks n) ((line_of other).name ≡ n) e
    (λ b same. ap (λ (x : Kind). (line_of x).name) (sym same) ∙ sym ((bytes_eq-Decides n (line_of k).name).0 b))
    (λ later. first_has ks n other later)

if_some : (found : Option Kind) (P : Kind → Type 0) → ((k : Kind) → found ≡ Some k → P k) → IfSome found P
if_some None P each = tt
if_some (Some k) P each = each k refl

-- a kind that is found has the name
pub found_has : (n : List ℕ) (found : Option Kind) → found ≡ first_named all_kinds n → IfSome found (λ k. (line_of k).name ≡ n)
found_has n found e = if_some found (λ k. (line_of k).name ≡ n) (λ k is. first_has all_kinds n k (sym e ∙ is))

flow_itself : (k : FlowKind) → first_named all_kinds (flow_line k).name ≡ Some (kind.Flow k)
unfolding line_of
flow_itself flow.Constant = refl
flow_itself k = refl

calc_itself : (k : CalcKind) → first_named all_kinds (calc_line k).name ≡ Some (kind.Calc k)
unfolding line_of
calc_itself calc.Add = refl
calc_itself k = refl

-- each kind is found by its name
pub itself : (k : Kind) → first_named all_kinds (line_of k).name ≡ Some k
unfolding line_of
itself (kind.Flow k) = flow_itself k
itself (kind.Calc k) = calc_itself k

-- ---- ports

flow_inports : (k : FlowKind) → length (flow_line k).inports ≡ (flow_row k).inports
flow_inports flow.Constant = refl
flow_inports k = refl

calc_inports : (k : CalcKind) → length (calc_line k).inports ≡ (calc_row k).inports
calc_inports calc.Add = refl
calc_inports k = refl

pub inports_are : (k : Kind) → length (line_of k).inports ≡ (row_of k).inports
unfolding line_of row_of
inports_are (kind.Flow k) = flow_inports k
inports_are (kind.Calc k) = calc_inports k

flow_outports : (k : FlowKind) → length (flow_line k).outports ≡ (flow_row k).outports
flow_outports flow.Constant = refl
flow_outports k = refl

calc_outports : (k : CalcKind) → length (calc_line k).outports ≡ (calc_row k).outports
calc_outports calc.Add = refl
calc_outports k = refl

pub outports_are : (k : Kind) → length (line_of k).outports ≡ (row_of k).outports
unfolding line_of row_of
outports_are (kind.Flow k) = flow_outports k
outports_are (kind.Calc k) = calc_outports k

flow_few : (k : FlowKind) → ((flow_row k).inports ≤ 3) × ((flow_row k).outports ≤ 3)
flow_few flow.Constant = (lit≤ tt, lit≤ tt)
flow_few k = (lit≤ tt, lit≤ tt)

calc_few : (k : CalcKind) → ((calc_row k).inports ≤ 3) × ((calc_row k).outports ≤ 3)
calc_few calc.Add = (lit≤ tt, lit≤ tt)
calc_few k = (lit≤ tt, lit≤ tt)

pub few_ports : (k : Kind) → ((row_of k).inports ≤ 3) × ((row_of k).outports ≤ 3)
unfolding row_of
few_ports (kind.Flow k) = flow_few k
few_ports (kind.Calc k) = calc_few k

-- as many ports as the row has
pub as_many : {X : Type 0} (f : X → List ℕ) (ports : List X) (names : List (List ℕ)) (n : ℕ) → map f ports ≡ names → length names ≡ n → length ports ≡ n
as_many f ports names n are e = sym (length-map ports f) ∙ ap length are ∙ e

-- ---- ports by their names

placed : (b : Bool) (i n count : ℕ) (rest : Option ℕ) → (if b then Some i else rest) ≡ Some n → 0 < count → (rest ≡ Some n → n < i + count) → n < i + count
placed true i n count rest e some later = let same : i ≡ n = cc in omega (arith, same, some)
placed false i n count rest e some later = later e

place_within : (i : ℕ) (names : List (List ℕ)) (name : List ℕ) (n : ℕ) → place_from i names name ≡ Some n → n < i + length names
place_within i [] name n e = cc
place_within i (m ∷ ms) name n e =
    placed (bytes_eq name m) i n (length (m ∷ ms)) (place_from (suc i) ms name) e (omega arith)
    (λ later. let below : n < suc i + length ms = place_within (suc i) ms name n later in omega arith)

pub inport_within : (k : Kind) (name : List ℕ) (n : ℕ) → inport_named k name ≡ Some n → n < (row_of k).inports
inport_within k name n e = let within : n < 0 + length (line_of k).inports = place_within 0 (line_of k).inports name n e in omega (arith, within, inports_are k)

pub outport_within : (k : Kind) (name : List ℕ) (n : ℕ) → outport_named k name ≡ Some n → n < (row_of k).outports
outport_within k name n e = let within : n < 0 + length (line_of k).outports = place_within 0 (line_of k).outports name n e in omega (arith, within, outports_are k)
