-- Parts have one first fault, and one network.
use Rattle.std.proofs.Common.{◌≡◌, ◌↔◌, inl, inr, List, [], ◌∷◌, refl, sym, ◌∙◌, ap, subst, arith}
use Rattle.cv_expand.specs.declared.flat.Actor.{Actor}
use Rattle.cv_expand.specs.declared.flat.Parts.{Parts}
use Rattle.cv_expand.specs.Bodies.{Among}
use Rattle.cv_kinds.specs.declared.network.ActorSpec.{ActorSpec}
use Rattle.cv_kinds.specs.declared.network.Connection.{Connection}
use Rattle.cv_kinds.specs.Net.{Net}
use Rattle.cv_kinds.specs.Wired.{IsBelow, AllAbove, Rising}
use Rattle.cv_graph.specs.declared.fault.GraphFault.{GraphFault}
use Rattle.cv_graph.specs.Arguments.{args_for, args_fault}
use Rattle.cv_graph.specs.Checks.{Check, kind_known, args_taken, source_there, target_there, fed_once, inport_fed, queues_fit, Tells, AllHold, IsFirst}
use Rattle.cv_graph.specs.Meaning.{IsSpec, AreSpecs, FitsQueues, IsNetwork}
use Rattle.cv_graph.proofs.Lists.{some_same}

-- ---- faults

one_told : (c : Check) (e f : GraphFault) → Tells c e → Tells c f → e ≡ f
one_told (kind_known a) e f h g = h ∙ sym g
one_told (args_taken a) e f h g =
    let kinds = some_same h.0 g.0 (sym h.1 ∙ g.1) in
    some_same e f (sym h.2 ∙ ap (λ k. args_fault k a) kinds ∙ g.2)
one_told (source_there x) e f h g = h ∙ sym g
one_told (target_there x) e f h g = h ∙ sym g
one_told (fed_once before x) e f h g = h ∙ sym g
one_told (inport_fed a name) e f h g = h ∙ sym g
one_told (queues_fit a) e f h g = h ∙ sym g

pub one_first : (parts : Parts) (cs : List Check) (e f : GraphFault) → IsFirst parts cs e → IsFirst parts cs f → e ≡ f
one_first parts [] e f h g = absurd h
one_first parts (c ∷ cs) e f (inl h) (inl g) = one_told c e f h.1 g.1
one_first parts (c ∷ cs) e f (inl h) (inr g) = absurd (h.0 g.0)
one_first parts (c ∷ cs) e f (inr h) (inl g) = absurd (g.0 h.0)
one_first parts (c ∷ cs) e f (inr h) (inr g) = one_first parts cs e f h.1 g.1

-- where all checks hold none is the first that does not
pub none_first : (parts : Parts) (cs : List Check) (e : GraphFault) → AllHold parts cs → IsFirst parts cs e → ⊥
none_first parts [] e all h = h
none_first parts (c ∷ cs) e all (inl h) = h.0 all.0
none_first parts (c ∷ cs) e all (inr h) = none_first parts cs e all.1 h.1

-- ---- networks

-- an actor has one form in a network
one_form : (a : Actor) (s t : ActorSpec) → IsSpec a s → IsSpec a t → s ≡ t
one_form a s t h g =
    let kind_same : s.kind ≡ t.kind = some_same s.kind t.kind (sym h.kind ∙ g.kind) in
    let path_same : s.path ≡ t.path = h.path ∙ sym g.path in
    let args_same : s.args ≡ t.args = h.args ∙ ap (λ k. args_for k a) kind_same ∙ sym g.args in
    (λ i. record { path = path_same i; kind = kind_same i; args = args_same i })

pub one_spec : (a : Actor) (s t : ActorSpec) → IsSpec a s → IsSpec a t → FitsQueues s → FitsQueues t
one_spec a s t h g fits = subst FitsQueues (one_form a s t h g) fits

one_actors : (actors : List Actor) (xs ys : List ActorSpec) → AreSpecs actors xs → AreSpecs actors ys → xs ≡ ys
one_actors [] [] [] h g = refl
one_actors [] [] (y ∷ ys) h g = absurd g
one_actors [] (x ∷ xs) ys h g = absurd h
one_actors (a ∷ actors) [] ys h g = absurd h
one_actors (a ∷ actors) (x ∷ xs) [] h g = absurd g
one_actors (a ∷ actors) (x ∷ xs) (y ∷ ys) h g =
    let first = one_form a x y h.0 g.0 in
    let rest = one_actors actors xs ys h.1 g.1 in
    (λ i. first i ∷ rest i)

not_both : (j k : Connection) → IsBelow j k → IsBelow k j → ⊥
not_both j k h g =
    let less = h.0 in
    let more = g.0 in
    let same : j.to ≡ k.to = omega (arith, less, more) in
    let first = h.1 same in
    let second = g.1 (sym same) in
    omega (arith, first, second)

pub above_all : (j : Connection) (js : List Connection) (k : Connection) → AllAbove j js → Among js k → IsBelow j k
above_all j [] k h a = absurd a
above_all j (x ∷ js) k h (inl e) = subst (IsBelow j) e h.0
above_all j (x ∷ js) k h (inr a) = above_all j js k h.1 a

first_same : (x y : Connection) (xs ys : List Connection) → AllAbove x xs → AllAbove y ys → Among (y ∷ ys) x → Among (x ∷ xs) y → x ≡ y
first_same x y xs ys h g (inl e) b = sym e
first_same x y xs ys h g (inr a) (inl e) = e
first_same x y xs ys h g (inr a) (inr b) = absurd (not_both x y (above_all x xs y h b) (above_all y ys x g a))

behind : (x y : Connection) (xs ys : List Connection) (j : Connection) → x ≡ y → AllAbove x xs → Among xs j → Among (y ∷ ys) j → Among ys j
behind x y xs ys j same h a (inl e) = let above = above_all x xs j h a in absurd (not_both x x (subst (IsBelow x) (sym (same ∙ e)) above) (subst (IsBelow x) (sym (same ∙ e)) above))
behind x y xs ys j same h a (inr b) = b

-- lists that rise and have the same members are the same
same_rising : (xs ys : List Connection) → Rising xs → Rising ys → ((j : Connection) → Among xs j ↔ Among ys j) → xs ≡ ys
same_rising [] [] h g same = refl
same_rising [] (y ∷ ys) h g same = absurd ((same y).1 (inl refl))
same_rising (x ∷ xs) [] h g same = absurd ((same x).0 (inl refl))
same_rising (x ∷ xs) (y ∷ ys) h g same =
    let first = first_same x y xs ys h.0 g.0 ((same x).0 (inl refl)) ((same y).1 (inl refl)) in
    let rest = same_rising xs ys h.1 g.1 (λ j. (λ a. behind x y xs ys j first h.0 a ((same j).0 (inr a)), λ a. behind y x ys xs j (sym first) g.0 a ((same j).1 (inr a)))) in
    (λ i. first i ∷ rest i)

pub one_network : (parts : Parts) (n m : Net) → IsNetwork parts n → IsNetwork parts m → n ≡ m
one_network parts n m h g =
    let actors_same = one_actors parts.actors n.actors m.actors h.actors g.actors in
    let connections_same = same_rising n.connections m.connections h.rising g.rising (λ j. (λ a. (g.connections j).1 ((h.connections j).0 a), λ a. (h.connections j).1 ((g.connections j).0 a))) in
    (λ i. record { actors = actors_same i; connections = connections_same i })
