-- Connections from what feeds the inports.
use Rattle.std.proofs.Common.{◌≡◌, ◌↔◌, ℕ, zero, suc, ◌+◌, ◌*◌, ◌≤◌, ◌⊎◌, inl, inr, List, [], ◌∷◌, ◌++◌, length, slice_get, Option, Some, None, refl, sym, ◌∙◌, ap, subst, arith, length-append}
use Rattle.cv_expand.specs.declared.flat.Parts.{Parts}
use Rattle.cv_expand.specs.Bodies.{Among}
use Rattle.cv_expand.proofs.Among.{Among-append_left, Among-append_right, Among-append_cases}
use Rattle.cv_kinds.specs.declared.network.Connection.{Connection}
use Rattle.cv_kinds.specs.Wired.{IsBelow, AllAbove, Rising}
use Rattle.cv_graph.specs.declared.port.Side.TheVariants as side
use Rattle.cv_graph.specs.declared.ways.Supply.{Supply}
use Rattle.cv_graph.specs.declared.ways.Supply.TheVariants as supplies
use Rattle.cv_graph.specs.Links.{AreSupplied, Feeds, link, links_at, links_from}
use Rattle.cv_graph.specs.Meaning.{Connects}
use Rattle.cv_graph.specs.Ports.{End, port, Place, actor_places, IsActorPort}
use Rattle.cv_graph.proofs.Lists.{some_same}
use Rattle.cv_graph.proofs.Names.{actor_few}
use Rattle.cv_graph.proofs.Single.{above_all}

-- ---- members

record IsLink (supply : ℕ → ℕ → Option Supply) (to inp : ℕ) (j : Connection) : Type 0 where
  supplied_by : supply to inp ≡ Some (supplies.Outport j.from j.out)
  consumer : j.to ≡ to
  inport : j.inp ≡ inp

link_is : (supply : ℕ → ℕ → Option Supply) (to inp : ℕ) (o : Option Supply) (j : Connection) → supply to inp ≡ o → Among (link to inp o) j → IsLink supply to inp j
link_is supply to inp None j e h = absurd h
link_is supply to inp (Some supplies.Void) j e h = absurd h
link_is supply to inp (Some (supplies.Outport from out)) j e (inl same) = record {
  supplied_by = e ∙ ap (λ (x : Connection). Some (supplies.Outport x.from x.out)) same;
  consumer = ap (λ (x : Connection). x.to) (sym same);
  inport = ap (λ (x : Connection). x.inp) (sym same);
}
link_is supply to inp (Some (supplies.Outport from out)) j e (inr h) = absurd h

-- a connection of an actor is that of one of its inports
abbrev AtIs : (ℕ → ℕ → Option Supply) → ℕ → ℕ → List (List ℕ) → Connection → Type 0
AtIs supply to inp names j = (k : ℕ) × (name : List ℕ) × (slice_get names k ≡ Some name) × IsLink supply to (inp + k) j

at_step : (supply : ℕ → ℕ → Option Supply) (to inp : ℕ) (n : List ℕ) (names : List (List ℕ)) (j : Connection) → (Among (links_at supply to (suc inp) names) j → AtIs supply to (suc inp) names j) → Among (link to inp (supply to inp)) j ⊎ Among (links_at supply to (suc inp) names) j → AtIs supply to inp (n ∷ names) j
at_step supply to inp n names j later (inl g) = let same : inp ≡ inp + 0 = omega arith in (0, n, refl, subst (λ i. IsLink supply to i j) same (link_is supply to inp (supply to inp) j refl g))
at_step supply to inp n names j later (inr g) =
    let r = later g in
    let same : suc inp + r.0 ≡ inp + suc r.0 = omega arith in
    (suc r.0, r.1, r.2, subst (λ i. IsLink supply to i j) same r.3)

at_is : (supply : ℕ → ℕ → Option Supply) (to inp : ℕ) (names : List (List ℕ)) (j : Connection) → Among (links_at supply to inp names) j → (k : ℕ) × (name : List ℕ) × (slice_get names k ≡ Some name) × IsLink supply to (inp + k) j
at_is supply to inp [] j h = absurd h
at_is supply to inp (n ∷ names) j h = at_step supply to inp n names j (at_is supply to (suc inp) names j) (Among-append_cases (link to inp (supply to inp)) (links_at supply to (suc inp) names) j h)

abbrev FromIs : (ℕ → ℕ → Option Supply) → ℕ → List Place → Connection → Type 0
FromIs supply to ps j = (k : ℕ) × (p : Place) × (i : ℕ) × (name : List ℕ) × (slice_get ps k ≡ Some p) × (slice_get p.inports i ≡ Some name) × IsLink supply (to + k) i j

from_step : (supply : ℕ → ℕ → Option Supply) (to : ℕ) (p : Place) (ps : List Place) (j : Connection) → (Among (links_from supply (suc to) ps) j → FromIs supply (suc to) ps j) → Among (links_at supply to 0 p.inports) j ⊎ Among (links_from supply (suc to) ps) j → FromIs supply to (p ∷ ps) j
from_step supply to p ps j later (inl g) =
    let r = at_is supply to 0 p.inports j g in
    let same : to ≡ to + 0 = omega arith in
    let number : 0 + r.0 ≡ r.0 = omega arith in
    (0, p, r.0, r.1, refl, r.2, subst (λ n. IsLink supply n r.0 j) same (subst (λ n. IsLink supply to n j) number r.3))
from_step supply to p ps j later (inr g) =
    let r = later g in
    let same : suc to + r.0 ≡ to + suc r.0 = omega arith in
    (suc r.0, r.1, r.2, r.3, r.4, r.5, subst (λ n. IsLink supply n r.2 j) same r.6)

from_is : (supply : ℕ → ℕ → Option Supply) (to : ℕ) (ps : List Place) (j : Connection) → Among (links_from supply to ps) j → FromIs supply to ps j
from_is supply to [] j h = absurd h
from_is supply to (p ∷ ps) j h = from_step supply to p ps j (from_is supply (suc to) ps j) (Among-append_cases (links_at supply to 0 p.inports) (links_from supply (suc to) ps) j h)

is_link : (to inp : ℕ) (o : Option Supply) (j : Connection) → o ≡ Some (supplies.Outport j.from j.out) → j.to ≡ to → j.inp ≡ inp → Among (link to inp o) j
is_link to inp o j e t i = subst (λ (x : Option Supply). Among (link to inp x) j) (sym e) (inl (λ n. record { from = j.from; out = j.out; to = (sym t) n; inp = (sym i) n }))

is_at : (supply : ℕ → ℕ → Option Supply) (to inp : ℕ) (names : List (List ℕ)) (k : ℕ) (name : List ℕ) (j : Connection) → slice_get names k ≡ Some name → supply to (inp + k) ≡ Some (supplies.Outport j.from j.out) → j.to ≡ to → j.inp ≡ inp + k → Among (links_at supply to inp names) j
is_at supply to inp [] k name j e s t i = cc
is_at supply to inp (n ∷ names) zero name j e s t i =
    let same : inp + 0 ≡ inp = omega arith in
    Among-append_left (link to inp (supply to inp)) (links_at supply to (suc inp) names) j (is_link to inp (supply to inp) j (ap (supply to) (sym same) ∙ s) t (i ∙ same))
is_at supply to inp (n ∷ names) (suc k) name j e s t i =
    let same : inp + suc k ≡ suc inp + k = omega arith in
    Among-append_right (link to inp (supply to inp)) (links_at supply to (suc inp) names) j (is_at supply to (suc inp) names k name j e (ap (supply to) (sym same) ∙ s) t (i ∙ same))

is_from : (supply : ℕ → ℕ → Option Supply) (to : ℕ) (ps : List Place) (k i : ℕ) (p : Place) (name : List ℕ) (j : Connection) → slice_get ps k ≡ Some p → slice_get p.inports i ≡ Some name → supply (to + k) i ≡ Some (supplies.Outport j.from j.out) → j.to ≡ to + k → j.inp ≡ i
    → Among (links_from supply to ps) j
is_from supply to [] k i p name j e n s t h = cc
is_from supply to (q ∷ ps) zero i p name j e n s t h =
    let same : to + 0 ≡ to = omega arith in
    let number : 0 + i ≡ i = omega arith in
    Among-append_left (links_at supply to 0 q.inports) (links_from supply (suc to) ps) j
    (is_at supply to 0 q.inports i name j (subst (λ (x : Place). slice_get x.inports i ≡ Some name) (sym (some_same q p e)) n) (ap (supply to) number ∙ ap (λ x. supply x i) (sym same) ∙ s) (t ∙ same) (h ∙ sym number))
is_from supply to (q ∷ ps) (suc k) i p name j e n s t h =
    let same : to + suc k ≡ suc to + k = omega arith in
    Among-append_right (links_at supply to 0 q.inports) (links_from supply (suc to) ps) j (is_from supply (suc to) ps k i p name j e n (ap (λ x. supply x i) (sym same) ∙ s) (t ∙ same) h)

-- the connections are where ways lead
pub links_connect : (parts : Parts) (supply : ℕ → ℕ → Option Supply) (j : Connection) → AreSupplied parts supply → Among (links_from supply 0 (actor_places parts)) j ↔ Connects parts j
links_connect parts supply j known = (there, back)
  where
    there : Among (links_from supply 0 (actor_places parts)) j → Connects parts j
    there h =
        let r = from_is supply 0 (actor_places parts) j h in
        let actor : 0 + r.0 ≡ j.to = let c = r.6.consumer in sym c in
        let e : End = port r.1.path side.In r.3 in
        let number : 0 + r.0 ≡ r.0 = omega arith in
        let to_is : j.to ≡ r.0 = sym actor ∙ number in
        let inport : IsActorPort parts side.In j.to j.inp e = (r.1, r.3, subst (λ n. slice_get (actor_places parts) n ≡ Some r.1) (sym to_is) r.4, subst (λ n. slice_get r.1.inports n ≡ Some r.3) (sym r.6.inport) r.5, refl) in
        let fed = subst (Feeds parts e) (ap (λ n. supply n j.inp) (sym actor) ∙ ap (supply (0 + r.0)) r.6.inport ∙ r.6.supplied_by) (known.feeds j.to j.inp e inport) in
        (fed.0, e, fed.1, inport, fed.2)

    back : Connects parts j → Among (links_from supply 0 (actor_places parts)) j
    back h =
        let number : 0 + j.to ≡ j.to = omega arith in
        is_from supply 0 (actor_places parts) j.to j.inp h.3.0 h.3.1 j h.3.2 h.3.3 (ap (λ n. supply n j.inp) number ∙ known.one j.to j.inp j.from j.out h.1 h.0 h.3 h.2 h.4) (sym number) refl

-- ---- order

all_above : (j : Connection) (js : List Connection) → ((k : Connection) → Among js k → IsBelow j k) → AllAbove j js
all_above j [] h = tt
all_above j (k ∷ js) h = (h k (inl refl), all_above j js (λ x a. h x (inr a)))

rising_append : (xs ys : List Connection) → Rising xs → Rising ys → ((j k : Connection) → Among xs j → Among ys k → IsBelow j k) → Rising (xs ++ ys)
rising_append [] ys h g below = g
rising_append (x ∷ xs) ys h g below = (all_above x (xs ++ ys) (λ k a. by_case k (Among-append_cases xs ys k a)), rising_append xs ys h.1 g (λ j k a b. below j k (inr a) b))
  where
    by_case : (k : Connection) → Among xs k ⊎ Among ys k → IsBelow x k
    by_case k (inl a) = above_all x xs k h.0 a
    by_case k (inr b) = below x k (inl refl) b

link_rising : (to inp : ℕ) (o : Option Supply) → Rising (link to inp o)
link_rising to inp None = tt
link_rising to inp (Some supplies.Void) = tt
link_rising to inp (Some (supplies.Outport from out)) = (tt, tt)

at_rising : (supply : ℕ → ℕ → Option Supply) (to inp : ℕ) (names : List (List ℕ)) → Rising (links_at supply to inp names)
at_rising supply to inp [] = tt
at_rising supply to inp (n ∷ names) = rising_append (link to inp (supply to inp)) (links_at supply to (suc inp) names) (link_rising to inp (supply to inp)) (at_rising supply to (suc inp) names) below
  where
    below : (j k : Connection) → Among (link to inp (supply to inp)) j → Among (links_at supply to (suc inp) names) k → IsBelow j k
    below j k a b =
        let l = link_is supply to inp (supply to inp) j refl a in
        let r = at_is supply to (suc inp) names k b in
        let c = l.consumer in let d = r.3.consumer in let e = l.inport in let f = r.3.inport in
        (omega (arith, c, d), λ same. omega (arith, e, f))

from_rising : (supply : ℕ → ℕ → Option Supply) (to : ℕ) (ps : List Place) → Rising (links_from supply to ps)
from_rising supply to [] = tt
from_rising supply to (p ∷ ps) = rising_append (links_at supply to 0 p.inports) (links_from supply (suc to) ps) (at_rising supply to 0 p.inports) (from_rising supply (suc to) ps) below
  where
    below : (j k : Connection) → Among (links_at supply to 0 p.inports) j → Among (links_from supply (suc to) ps) k → IsBelow j k
    below j k a b =
        let l = at_is supply to 0 p.inports j a in
        let r = from_is supply (suc to) ps k b in
        let c = l.3.consumer in let d = r.6.consumer in
        (omega (arith, c, d), λ same. absurd (omega (arith, c, d, same)))

pub links_rising : (parts : Parts) (supply : ℕ → ℕ → Option Supply) → Rising (links_from supply 0 (actor_places parts))
links_rising parts supply = from_rising supply 0 (actor_places parts)

-- ---- number

link_few : (to inp : ℕ) (o : Option Supply) → length (link to inp o) ≤ 1
link_few to inp None = omega arith
link_few to inp (Some supplies.Void) = omega arith
link_few to inp (Some (supplies.Outport from out)) = omega arith

at_few : (supply : ℕ → ℕ → Option Supply) (to inp : ℕ) (names : List (List ℕ)) → length (links_at supply to inp names) ≤ length names
at_few supply to inp [] = omega arith
at_few supply to inp (n ∷ names) = omega (arith, length-append (link to inp (supply to inp)) (links_at supply to (suc inp) names), link_few to inp (supply to inp), at_few supply to (suc inp) names)

from_few : (supply : ℕ → ℕ → Option Supply) (to : ℕ) (ps : List Place) → ((k : ℕ) (p : Place) → slice_get ps k ≡ Some p → length p.inports ≤ 3) → length (links_from supply to ps) ≤ 3 * length ps
from_few supply to [] few = omega arith
from_few supply to (p ∷ ps) few =
    let rest = from_few supply (suc to) ps (λ k q e. few (suc k) q e) in
    let one = few 0 p refl in
    omega (arith, length-append (links_at supply to 0 p.inports) (links_from supply (suc to) ps), at_few supply to 0 p.inports, rest, one)

pub links_few : (parts : Parts) (supply : ℕ → ℕ → Option Supply) → length (links_from supply 0 (actor_places parts)) ≤ 3 * length (actor_places parts)
links_few parts supply = from_few supply 0 (actor_places parts) (λ k p e. actor_few parts k p side.In e)
