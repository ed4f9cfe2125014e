-- The ports of a kind have different names, and there are few of them.
use Rattle.std.proofs.Common.{◌≡◌, ℕ, ◌≤◌, Bool, true, false, not, ◌&&◌, if◌then◌else◌, ◌⊎◌, inl, inr, List, [], ◌∷◌, length, slice_get, Option, Some, None, refl, sym, ◌∙◌, ap, subst, arith}
use Rattle.std.proofs.lemmas.Slice.Eq.{bytes_eq-Decides}
use Rattle.std.specs.Str.{bytes_eq}
use Rattle.cv_calc.specs.declared.kind.CalcKind.{CalcKind}
use Rattle.cv_calc.specs.declared.kind.CalcKind.TheVariants as calc
use Rattle.cv_expand.specs.declared.path.Step.{Step}
use Rattle.cv_expand.specs.declared.flat.Actor.{Actor}
use Rattle.cv_expand.specs.declared.flat.Parts.{Parts}
use Rattle.cv_expand.specs.Bodies.{Among, Distinct}
use Rattle.cv_expand.specs.Lookup.{has}
use Rattle.cv_flow.specs.declared.kind.FlowKind.{FlowKind}
use Rattle.cv_flow.specs.declared.kind.FlowKind.TheVariants as flow
use Rattle.cv_kinds.specs.declared.kind.Kind.{Kind}
use Rattle.cv_kinds.specs.declared.kind.Kind.TheVariants as kind
use Rattle.cv_kinds.specs.KindRow.{row_of}
use Rattle.cv_kinds.specs.Names.{kind_named}
use Rattle.cv_kinds.specs.Table.{line_of, flow_line, calc_line}
use Rattle.cv_kinds.proofs.Lines.{inports_are, outports_are, few_ports}
use Rattle.cv_graph.specs.declared.port.Side.{Side}
use Rattle.cv_graph.specs.declared.port.Side.TheVariants as side
use Rattle.cv_graph.specs.Ports.{Place, kind_place, actor_place, actor_places, names_on}
use Rattle.cv_graph.proofs.Lists.{map_at}

not_test : (b : Bool) (n name : List ℕ) (names : List (List ℕ)) → (n ≡ name → b ≡ true) → (if b then true else has names name) ≡ false → (has names name ≡ false → Among names name → ⊥) → (n ≡ name) ⊎ Among names name → ⊥
not_test true n name names tells e rest h = cc
not_test false n name names tells e rest (inl same) = let clash : false ≡ true = tells same in cc
not_test false n name names tells e rest (inr h) = rest e h

not_had : (names : List (List ℕ)) (name : List ℕ) → has names name ≡ false → Among names name → ⊥
not_had [] name e h = h
not_had (n ∷ names) name e h = not_test (bytes_eq n name) n name names (bytes_eq-Decides n name).1 e (not_had names name) h

abbrev are_apart : List (List ℕ) → Bool
are_apart [] = true
are_apart (n ∷ names) = not (has names n) && are_apart names

apart_test : (b c : Bool) (n : List ℕ) (names : List (List ℕ)) → has names n ≡ b → (not b && c) ≡ true → (c ≡ true → Distinct names) → Distinct (n ∷ names)
apart_test true c n names is e rest = cc
apart_test false c n names is e rest = (not_had names n is, rest e)

apart_names : (names : List (List ℕ)) → are_apart names ≡ true → Distinct names
apart_names [] e = tt
apart_names (n ∷ names) e = apart_test (has names n) (are_apart names) n names refl e (apart_names names)

flow_apart : (k : FlowKind) → (are_apart (flow_line k).inports && are_apart (flow_line k).outports) ≡ true
flow_apart flow.Constant = refl
flow_apart k = refl

calc_apart : (k : CalcKind) → (are_apart (calc_line k).inports && are_apart (calc_line k).outports) ≡ true
calc_apart calc.Add = refl
calc_apart k = refl

both_true : (a b : Bool) → (a && b) ≡ true → (a ≡ true) × (b ≡ true)
both_true true true e = (refl, refl)
both_true true false e = cc
both_true false b e = cc

kind_apart : (k : Kind) → Distinct (line_of k).inports × Distinct (line_of k).outports
unfolding line_of
kind_apart (kind.Flow k) = let h = both_true _ _ (flow_apart k) in (apart_names (flow_line k).inports h.0, apart_names (flow_line k).outports h.1)
kind_apart (kind.Calc k) = let h = both_true _ _ (calc_apart k) in (apart_names (calc_line k).inports h.0, apart_names (calc_line k).outports h.1)

place_apart : (path : List Step) (k : Option Kind) (s : Side) → Distinct (names_on s (kind_place path k))
place_apart path None side.In = tt
place_apart path None side.Out = tt
place_apart path (Some k) side.In = (kind_apart k).0
place_apart path (Some k) side.Out = (kind_apart k).1

place_few : (path : List Step) (k : Option Kind) (s : Side) → length (names_on s (kind_place path k)) ≤ 3
place_few path None side.In = omega arith
place_few path None side.Out = omega arith
place_few path (Some k) side.In = let f = (few_ports k).0 in omega (arith, inports_are k, f)
place_few path (Some k) side.Out = let f = (few_ports k).1 in omega (arith, outports_are k, f)

-- the names of an actor's ports are different
pub actor_apart : (parts : Parts) (n : ℕ) (p : Place) (s : Side) → slice_get (actor_places parts) n ≡ Some p → Distinct (names_on s p)
actor_apart parts n p s e = let a = map_at actor_place parts.actors n p e in subst (λ (q : Place). Distinct (names_on s q)) a.2 (place_apart a.0.path (kind_named a.0.kind) s)

pub actor_few : (parts : Parts) (n : ℕ) (p : Place) (s : Side) → slice_get (actor_places parts) n ≡ Some p → length (names_on s p) ≤ 3
actor_few parts n p s e = let a = map_at actor_place parts.actors n p e in subst (λ (q : Place). length (names_on s q) ≤ 3) a.2 (place_few a.0.path (kind_named a.0.kind) s)

-- an actor of a kind has as many inports as the kind's row
pub inports_count : (a : Actor) (k : Kind) → kind_named a.kind ≡ Some k → (row_of k).inports ≡ length (actor_place a).inports
inports_count a k e = sym (inports_are k) ∙ ap (λ (o : Option Kind). length (kind_place a.path o).inports) (sym e)

pub inports_none : (a : Actor) → kind_named a.kind ≡ None → 0 ≡ length (actor_place a).inports
inports_none a e = ap (λ (o : Option Kind). length (kind_place a.path o).inports) (sym e)

pub few_inports : (k : Kind) → (row_of k).inports ≤ 3
few_inports k = (few_ports k).0
