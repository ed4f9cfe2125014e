-- Ways by numbers, and what reaches what.
use Rattle.std.proofs.Common.{◌≡◌, ℕ, zero, suc, ◌<◌, ◌≤◌, nat_lt, if◌then◌else◌, Bool, true, false, ◌⊎◌, inl, inr, List, [], ◌∷◌, map, length, slice_get, Option, Some, None, refl, sym, ◌∙◌, ap, subst, arith, ltb-true}
use Rattle.std.proofs.lemmas.List.{length-map}
use Rattle.std.specs.Prelude.{option_and_then}
use Rattle.std.specs.BTreeMap.{BTreeMap}
use Rattle.std.proofs.lemmas.Option.{slice_get_within}
use Rattle.std.proofs.lemmas.Bool.Decides.{nat_tests}
use Rattle.cv_expand.specs.declared.flat.Feed.{Feed}
use Rattle.cv_expand.specs.declared.flat.Parts.{Parts}
use Rattle.cv_expand.specs.declared.path.Step.{Step}
use Rattle.cv_expand.specs.Bodies.{Distinct}
use Rattle.cv_graph.specs.declared.port.Port.{Port}
use Rattle.cv_graph.specs.declared.port.Side.{Side}
use Rattle.cv_graph.specs.declared.port.Side.TheVariants as side
use Rattle.cv_graph.specs.declared.port.Wire.{Wire}
use Rattle.cv_graph.specs.declared.ways.Supply.{Supply}
use Rattle.cv_graph.specs.declared.ways.Supply.TheVariants as supplies
use Rattle.cv_graph.specs.declared.ways.Way.{Way}
use Rattle.cv_graph.specs.declared.ways.Way.TheVariants as ways
use Rattle.cv_graph.specs.Links.{back_to, way_from, way_of, ended, supply_in, supplied, Feeds, AreSupplied}
use Rattle.cv_graph.specs.Ports.{End, void, port, source_of, target_of, IsFeed, Reaches, at_once, both, Place, names_on, actor_places, instance_places, places, IsActorPort, IsFed}
use Rattle.cv_graph.specs.Tables.{IsPort, IsEnd, IsAim, IsWire, AreWires, feeder, Indexed}
use Rattle.cv_graph.specs.Ways.{EndsIn, here, there, AreEnded}
use Rattle.cv_graph.proofs.Lists.{some_same, among_at, place_among, at_map, map_at, front_at, at_front}
use Rattle.cv_graph.proofs.Lookups.{one_name, one_port}
use Rattle.cv_graph.proofs.Names.{actor_apart, actor_few}
use Rattle.cv_graph.proofs.Numbers.{number_at, number_is}

-- what the code knows once all joins are there
pub record IsJoined (parts : Parts) (wires : List Wire) (m : BTreeMap Port ℕ) : Type 0 where
  pub apart : Distinct (map (λ p. p.path) (places parts))
  pub wires_are : AreWires parts parts.feeds wires
  pub indexed : Indexed wires m

-- ---- joins and their numbers

pub wire_at : (parts : Parts) (feeds : List Feed) (wires : List Wire) (i : ℕ) (f : Feed) → AreWires parts feeds wires → slice_get feeds i ≡ Some f → (w : Wire) × (slice_get wires i ≡ Some w) × IsWire parts f w
wire_at parts [] [] i f h e = cc
wire_at parts [] (w ∷ wires) i f h e = absurd h
wire_at parts (g ∷ feeds) [] i f h e = absurd h
wire_at parts (g ∷ feeds) (w ∷ wires) zero f h e = (w, refl, subst (λ (x : Feed). IsWire parts x w) (some_same g f e) h.0)
wire_at parts (g ∷ feeds) (w ∷ wires) (suc i) f h e = wire_at parts feeds wires i f h.1 e

pub feed_at : (parts : Parts) (feeds : List Feed) (wires : List Wire) (i : ℕ) (w : Wire) → AreWires parts feeds wires → slice_get wires i ≡ Some w → (f : Feed) × (slice_get feeds i ≡ Some f) × IsWire parts f w
feed_at parts [] [] i w h e = cc
feed_at parts [] (v ∷ wires) i w h e = absurd h
feed_at parts (g ∷ feeds) [] i w h e = absurd h
feed_at parts (g ∷ feeds) (v ∷ wires) zero w h e = (g, refl, subst (λ (x : Wire). IsWire parts g x) (some_same v w e) h.0)
feed_at parts (g ∷ feeds) (v ∷ wires) (suc i) w h e = feed_at parts feeds wires i w h.1 e

-- ---- ends by numbers

abbrev pub IsPortOf : List Place → End → Port → Type 0
IsPortOf ps void p = ⊥
IsPortOf ps (port path s name) p = IsPort ps path s name p

end_port : (ps : List Place) (o : Option Port) (e : End) (p : Port) → IsEnd ps o e → o ≡ Some p → IsPortOf ps e p
end_port ps None e p h is = cc
end_port ps (Some q) void p h is = absurd h
end_port ps (Some q) (port path s name) p h is = subst (IsPort ps path s name) (some_same q p is) h

port_end : (ps : List Place) (o : Option Port) (path : List Step) (s : Side) (name : List ℕ) → IsEnd ps o (port path s name) → (p : Port) × (o ≡ Some p) × IsPort ps path s name p
port_end ps None path s name h = absurd h
port_end ps (Some p) path s name h = (p, refl, h)

void_end : (ps : List Place) (o : Option Port) (e : End) → IsEnd ps o e → o ≡ None → e ≡ void
void_end ps None void h is = refl
void_end ps None (port path s name) h is = absurd h
void_end ps (Some p) e h is = cc

no_port : (ps : List Place) (o : Option Port) (e : End) → IsEnd ps o e → e ≡ void → o ≡ None
no_port ps None e h is = refl
no_port ps (Some p) void h is = absurd h
no_port ps (Some p) (port path s name) h is = cc

-- a target is a port
pub aim_port : (ps : List Place) (o : Option Port) (t : Option End) (e : End) → IsAim ps o t → t ≡ Some e → (p : Port) × (o ≡ Some p) × IsPortOf ps e p
aim_port ps None None e h is = cc
aim_port ps None (Some x) e h is = absurd h
aim_port ps (Some p) None e h is = cc
aim_port ps (Some p) (Some void) e h is = absurd h
aim_port ps (Some p) (Some (port path s name)) e h is = (p, refl, subst (λ (x : End). IsPortOf ps x p) (some_same (port path s name) e is) h)

pub port_aim : (ps : List Place) (o : Option Port) (t : Option End) (p : Port) → IsAim ps o t → o ≡ Some p → (e : End) × (t ≡ Some e) × IsPortOf ps e p
port_aim ps None t p h is = cc
port_aim ps (Some q) None p h is = absurd h
port_aim ps (Some q) (Some void) p h is = absurd h
port_aim ps (Some q) (Some (port path s name)) p h is = (port path s name, refl, subst (IsPort ps path s name) (some_same q p is) h)

pub same_end : (ps : List Place) (d e : End) (p : Port) → IsPortOf ps d p → IsPortOf ps e p → d ≡ e
same_end ps void e p h g = absurd h
same_end ps (port a s x) void p h g = absurd g
same_end ps (port a s x) (port b t y) p h g = let o = one_name ps a b s t x y p h g in (λ i. port (o.0 i) (o.1 i) (o.2 i))

pub same_port : (ps : List Place) (e : End) (p q : Port) → Distinct (map (λ p. p.path) ps) → IsPortOf ps e p → IsPortOf ps e q → p ≡ q
same_port ps void p q apart h g = absurd h
same_port ps (port a s x) p q apart h g = one_port ps a s x p q apart h g

-- ---- ports of actors

pub actor_port : (parts : Parts) (s : Side) (n k : ℕ) (e : End) → IsActorPort parts s n k e → IsPortOf (places parts) e (record { place = n; side = s; number = k })
actor_port parts s n k e h =
    subst (λ (x : End). IsPortOf (places parts) x (record { place = n; side = s; number = k })) (sym h.4) (record {
      place = h.0;
      there = front_at (actor_places parts) (instance_places parts) n h.0 h.2;
      path_is = refl;
      side_is = refl;
      number_is = number_is (names_on s h.0) k h.1 (actor_apart parts n h.0 s h.2) h.3;
    })

actors_of : (parts : Parts) → length (actor_places parts) ≡ length parts.actors
actors_of parts = length-map parts.actors _

port_actor : (parts : Parts) (path : List Step) (s : Side) (name : List ℕ) (p : Port) → IsPort (places parts) path s name p → p.place < length parts.actors → IsActorPort parts s p.place p.number (port path s name)
port_actor parts path s name p h less =
    let inside : p.place < length (actor_places parts) = omega (arith, actors_of parts) in
    (h.place, name, at_front (actor_places parts) (instance_places parts) p.place h.place h.there inside, number_at (names_on s h.place) p.number name h.number_is, ap (λ (q : List Step). port q s name) (sym h.path_is))

-- the end from which a supply comes
abbrev pub IsSpring : Parts → Supply → End → Type 0
IsSpring parts supplies.Void e = e ≡ void
IsSpring parts (supplies.Outport actor number) e = IsActorPort parts side.Out actor number e

-- ---- what a way says of its end

lt_true : (a b : ℕ) → nat_lt a b ≡ true → a < b
lt_true a b e = ltb-true a b e

-- where the code goes back it has found a join to the source
back_by : (b : Bool) (f : Option ℕ) (s : Supply) (j : ℕ) → (if b then ways.Ended (Some s) else back_to f) ≡ ways.Back j → f ≡ Some j
back_by true f s j e = cc
back_by false None s j e = cc
back_by false (Some n) s j e = let same : n ≡ j = cc in ap Some same

pub goes_back : (actors : ℕ) (m : BTreeMap Port ℕ) (o : Option Port) (j : ℕ) → way_from actors m o ≡ ways.Back j → (p : Port) × (o ≡ Some p) × (feeder m p ≡ Some j)
goes_back actors m None j e = cc
goes_back actors m (Some p) j e = (p, refl, back_by (nat_lt p.place actors) (feeder m p) (supplies.Outport p.place p.number) j e)

-- where it ends, it ends at `voidport` or at an actor
ends_by_test : (b : Bool) (f : Option ℕ) (t s : Supply) → (if b then ways.Ended (Some t) else back_to f) ≡ ways.Ended (Some s) → (b ≡ true) × (s ≡ t)
ends_by_test true f t s e = let same : t ≡ s = cc in (refl, sym same)
ends_by_test false None t s e = cc
ends_by_test false (Some n) t s e = cc

ends_at : (actors : ℕ) (m : BTreeMap Port ℕ) (o : Option Port) (s : Supply) → way_from actors m o ≡ ways.Ended (Some s)
    → ((o ≡ None) × (s ≡ supplies.Void)) ⊎ ((p : Port) × (o ≡ Some p) × (p.place < actors) × (s ≡ supplies.Outport p.place p.number))
ends_at actors m None s e = let same : supplies.Void ≡ s = cc in inl (refl, sym same)
ends_at actors m (Some p) s e = let r = ends_by_test (nat_lt p.place actors) (feeder m p) (supplies.Outport p.place p.number) s e in inr (p, refl, lt_true p.place actors r.0, r.1)

out_side : (parts : Parts) (f : Feed) (w : Wire) (p : Port) (path : List Step) (s : Side) (name : List ℕ) → IsWire parts f w → w.source ≡ Some p → IsPort (places parts) path s name p → p.place < length parts.actors → s ≡ side.Out
out_side parts f w p path side.Out name h is port_is less = refl
out_side parts f w p path side.In name h is port_is less = let behind = h.own_source p is port_is.side_is in absurd (omega (arith, behind, less))

spring_of : (parts : Parts) (f : Feed) (w : Wire) (p : Port) (e : End) → IsWire parts f w → w.source ≡ Some p → IsPortOf (places parts) e p → p.place < length parts.actors → IsActorPort parts side.Out p.place p.number e
spring_of parts f w p void h is port_is less = absurd port_is
spring_of parts f w p (port path s name) h is port_is less =
    let out = out_side parts f w p path s name h is port_is less in
    subst (λ (x : Side). IsActorPort parts side.Out p.place p.number (port path x name)) (sym out) (port_actor parts path side.Out name p (subst (λ (x : Side). IsPort (places parts) path x name p) out port_is) less)

abbrev pub From : List Feed → End → End → Type 0
From feeds x y = (x ≡ y) ⊎ Reaches feeds x y

one_step : (feeds : List Feed) (x y z : End) → From feeds x y → IsFeed feeds y z → Reaches feeds x z
one_step feeds x y z (inl same) s = at_once x z (subst (λ (e : End). IsFeed feeds e z) (sym same) s)
one_step feeds x y z (inr h) s = both x y z h (at_once y z s)

-- a way that ends at a supply is a way from its spring
pub comes_from : (parts : Parts) (wires : List Wire) (m : BTreeMap Port ℕ) (s : Supply) (i : ℕ) (f : Feed) → IsJoined parts wires m → EndsIn (map (way_of (length parts.actors) m) wires) (Some s) i → slice_get parts.feeds i ≡ Some f
    → (x : End) × IsSpring parts s x × From parts.feeds x (source_of f)
comes_from parts wires m s _ f j (here k e) at =
    let a = map_at (way_of (length parts.actors) m) wires k (ways.Ended (Some s)) e in
    let w = wire_at parts parts.feeds wires k f j.wires_are at in
    let same : a.0 ≡ w.0 = some_same a.0 w.0 (sym a.1 ∙ w.1) in
    let way : way_from (length parts.actors) m w.0.source ≡ ways.Ended (Some s) = ap (λ (x : Wire). way_from (length parts.actors) m x.source) (sym same) ∙ a.2 in
    elim (ends_at (length parts.actors) m w.0.source s way) [
      | inl h ↦ (void, subst (λ (x : Supply). IsSpring parts x void) (sym h.1) refl, inl (sym (void_end (places parts) w.0.source (source_of f) w.2.source h.0)))
      | inr h ↦
          (source_of f, subst (λ (x : Supply). IsSpring parts x (source_of f)) (sym h.3) (spring_of parts f w.0 h.0 (source_of f) w.2 h.1 (end_port (places parts) w.0.source (source_of f) h.0 w.2.source h.1) h.2), inl refl)
    ]
comes_from parts wires m s _ f j (there k n e h) at =
    let a = map_at (way_of (length parts.actors) m) wires k (ways.Back n) e in
    let w = wire_at parts parts.feeds wires k f j.wires_are at in
    let same : a.0 ≡ w.0 = some_same a.0 w.0 (sym a.1 ∙ w.1) in
    let back = goes_back (length parts.actors) m w.0.source n (ap (λ (x : Wire). way_from (length parts.actors) m x.source) (sym same) ∙ a.2) in
    let v = (j.indexed back.0 n).0 back.2 in
    let g = feed_at parts parts.feeds wires n v.0 j.wires_are v.1 in
    let t = port_aim (places parts) v.0.target (target_of g.0) back.0 g.2.target v.2 in
    let ends = same_end (places parts) t.0 (source_of f) back.0 t.2 (end_port (places parts) w.0.source (source_of f) back.0 w.2.source back.1) in
    let r = comes_from parts wires m s n g.0 j h g.1 in
    (r.0, r.1, inr (one_step parts.feeds r.0 (source_of g.0) (source_of f) r.2 (g.0, among_at parts.feeds n g.0 g.1, refl, t.1 ∙ ap Some ends)))

-- ---- what reaches an end comes by a last join

data Comes (feeds : List Feed) (x : End) : ℕ → Type 0 where
  starts : (i : ℕ) (f : Feed) → slice_get feeds i ≡ Some f → source_of f ≡ x → Comes feeds x i
  goes : (i j : ℕ) (f g : Feed) → slice_get feeds i ≡ Some f → slice_get feeds j ≡ Some g → target_of g ≡ Some (source_of f) → Comes feeds x j → Comes feeds x i

extend : (feeds : List Feed) (x q : End) (i : ℕ) (f : Feed) → slice_get feeds i ≡ Some f → target_of f ≡ Some q → Comes feeds x i → (j : ℕ) → Comes feeds q j → Comes feeds x j
extend feeds x q i f at t c _ (starts j g e s) = goes j i g f e at (t ∙ ap Some (sym s)) c
extend feeds x q i f at t c _ (goes j k g h e a u d) = goes j k g h e a u (extend feeds x q i f at t c k d)

record Last (feeds : List Feed) (x e : End) : Type 0 where
  place : ℕ
  feed : Feed
  there_is : slice_get feeds place ≡ Some feed
  aims : target_of feed ≡ Some e
  comes : Comes feeds x place

last_of : (feeds : List Feed) (x e : End) → Reaches feeds x e → Last feeds x e
last_of feeds _ _ (at_once p q s) =
    let i = place_among feeds s.0 s.1 in
    record { place = i.0; feed = s.0; there_is = i.1; aims = s.3; comes = starts i.0 s.0 i.1 s.2 }
last_of feeds _ _ (both p q r h g) =
    let a = last_of feeds p q h in
    let b = last_of feeds q r g in
    record { place = b.place; feed = b.feed; there_is = b.there_is; aims = b.aims; comes = extend feeds p q a.place a.feed a.there_is a.aims a.comes b.place b.comes }

source_is : (ps : List Place) (o : Option Port) (e : End) (p : Port) → Distinct (map (λ p. p.path) ps) → IsEnd ps o e → IsPortOf ps e p → o ≡ Some p
source_is ps None void p apart h g = absurd g
source_is ps None (port path s name) p apart h g = absurd h
source_is ps (Some q) void p apart h g = absurd h
source_is ps (Some q) (port path s name) p apart h g = ap Some (one_port ps path s name q p apart h g)

aim_is : (ps : List Place) (o : Option Port) (t : Option End) (e : End) (p : Port) → Distinct (map (λ p. p.path) ps) → IsAim ps o t → t ≡ Some e → IsPortOf ps e p → o ≡ Some p
aim_is ps o t e p apart h is g = let a = aim_port ps o t e h is in a.1 ∙ ap Some (same_port ps e a.0 p apart a.2 g)

lt_yes : (a b : ℕ) → a < b → nat_lt a b ≡ true
lt_yes a b h = grind (arith, nat_tests)

lt_no : (a b : ℕ) → b ≤ a → nat_lt a b ≡ false
lt_no a b h = grind (arith, nat_tests)

ends_now : (actors : ℕ) (m : BTreeMap Port ℕ) (p : Port) → p.place < actors → way_from actors m (Some p) ≡ ways.Ended (Some (supplies.Outport p.place p.number))
ends_now actors m p less = ap (λ (b : Bool). if b then ways.Ended (Some (supplies.Outport p.place p.number)) else back_to (feeder m p)) (lt_yes p.place actors less)

backs_now : (actors : ℕ) (m : BTreeMap Port ℕ) (p : Port) (n : ℕ) → actors ≤ p.place → feeder m p ≡ Some n → way_from actors m (Some p) ≡ ways.Back n
backs_now actors m p n less e = ap (λ (b : Bool). if b then ways.Ended (Some (supplies.Outport p.place p.number)) else back_to (feeder m p)) (lt_no p.place actors less) ∙ ap back_to e

-- a join from a spring ends the way there
way_ends : (parts : Parts) (m : BTreeMap Port ℕ) (s : Supply) (x : End) (o : Option Port) → Distinct (map (λ p. p.path) (places parts)) → IsEnd (places parts) o x → IsSpring parts s x → way_from (length parts.actors) m o ≡ ways.Ended (Some s)
way_ends parts m supplies.Void x o apart h is = ap (way_from (length parts.actors) m) (no_port (places parts) o x h is)
way_ends parts m (supplies.Outport actor number) x o apart h is =
    let p = actor_port parts side.Out actor number x is in
    let inside : actor < length (actor_places parts) = slice_get_within (actor_places parts) actor is.0 is.2 in
    let less : actor < length parts.actors = omega (arith, inside, actors_of parts) in
    ap (way_from (length parts.actors) m) (source_is (places parts) o x (record { place = actor; side = side.Out; number = number }) apart h p)
    ∙ ends_now (length parts.actors) m (record { place = actor; side = side.Out; number = number }) less

-- a port that is a source and a target is an instance's
is_inner : (parts : Parts) (f g : Feed) (v w : Wire) (p : Port) → IsWire parts f v → IsWire parts g w → v.source ≡ Some p → w.target ≡ Some p → length parts.actors ≤ p.place
is_inner parts f g v w p h k s t = by_side p.side refl
  where
    by_side : (x : Side) → p.side ≡ x → length parts.actors ≤ p.place
    by_side side.In e = h.own_source p s e
    by_side side.Out e = k.own_target p t e

ends_by : (parts : Parts) (wires : List Wire) (m : BTreeMap Port ℕ) (s : Supply) (x : End) → IsJoined parts wires m → IsSpring parts s x → (i : ℕ) → Comes parts.feeds x i → EndsIn (map (way_of (length parts.actors) m) wires) (Some s) i
ends_by parts wires m s x j is _ (starts i f e from) =
    let w = wire_at parts parts.feeds wires i f j.wires_are e in
    here i (at_map (way_of (length parts.actors) m) wires i w.0 w.1 ∙ ap Some (way_ends parts m s (source_of f) w.0.source j.apart w.2.source (subst (IsSpring parts s) (sym from) is)))
ends_by parts wires m s x j is _ (goes i k f g e a t c) =
    let v = wire_at parts parts.feeds wires i f j.wires_are e in
    let w = wire_at parts parts.feeds wires k g j.wires_are a in
    let p = aim_port (places parts) w.0.target (target_of g) (source_of f) w.2.target t in
    let from = source_is (places parts) v.0.source (source_of f) p.0 j.apart v.2.source p.2 in
    let fed = (j.indexed p.0 k).1 (w.0, w.1, p.1) in
    let way = ap (way_from (length parts.actors) m) from ∙ backs_now (length parts.actors) m p.0 k (is_inner parts f g v.0 w.0 p.0 v.2 w.2 from p.1) fed in
    there i k (at_map (way_of (length parts.actors) m) wires i v.0 v.1 ∙ ap Some way) (ends_by parts wires m s x j is k c)

-- ---- what feeds an inport

pub supply_reaches : (parts : Parts) (wires : List Wire) (m : BTreeMap Port ℕ) (now : List Way) (s : Supply) (x e : End) (n k : ℕ) → IsJoined parts wires m → AreEnded (map (way_of (length parts.actors) m) wires) now
    → IsSpring parts s x → Reaches parts.feeds x e → IsActorPort parts side.In n k e → supplied m now n k ≡ Some s
supply_reaches parts wires m now s x e n k j all is reach inport =
    let l = last_of parts.feeds x e reach in
    let w = wire_at parts parts.feeds wires l.place l.feed j.wires_are l.there_is in
    let t = aim_is (places parts) w.0.target (target_of l.feed) e (record { place = n; side = side.In; number = k }) j.apart w.2.target l.aims (actor_port parts side.In n k e inport) in
    let fed = (j.indexed (record { place = n; side = side.In; number = k }) l.place).1 (w.0, w.1, t) in
    let ended_there = (all.ends l.place (Some s)).1 (ends_by parts wires m s x j is l.place l.comes) in
    ap (option_and_then (supply_in now)) fed ∙ ap (option_and_then ended) ended_there

then_some : {X Y : Type 0} (f : X → Option Y) (o : Option X) (y : Y) → option_and_then f o ≡ Some y → (x : X) × (o ≡ Some x) × (f x ≡ Some y)
then_some f None y e = cc
then_some f (Some x) y e = (x, refl, e)

ended_is : (w : Way) (s : Supply) → ended w ≡ Some s → w ≡ ways.Ended (Some s)
ended_is (ways.Ended o) s e = ap (λ (x : Option Supply). ways.Ended x) e
ended_is (ways.Back n) s e = cc

reaches_supply : (parts : Parts) (wires : List Wire) (m : BTreeMap Port ℕ) (now : List Way) (s : Supply) (e : End) (n k : ℕ) → IsJoined parts wires m → AreEnded (map (way_of (length parts.actors) m) wires) now
    → IsActorPort parts side.In n k e → supplied m now n k ≡ Some s → (x : End) × IsSpring parts s x × Reaches parts.feeds x e
reaches_supply parts wires m now s e n k j all inport found =
    let a = then_some (supply_in now) (feeder m (record { place = n; side = side.In; number = k })) s found in
    let b = then_some ended (slice_get now a.0) s a.2 in
    let way : slice_get now a.0 ≡ Some (ways.Ended (Some s)) = b.1 ∙ ap Some (ended_is b.0 s b.2) in
    let v = (j.indexed (record { place = n; side = side.In; number = k }) a.0).0 a.1 in
    let f = feed_at parts parts.feeds wires a.0 v.0 j.wires_are v.1 in
    let c = comes_from parts wires m s a.0 f.0 j ((all.ends a.0 (Some s)).0 way) f.1 in
    let t = port_aim (places parts) v.0.target (target_of f.0) (record { place = n; side = side.In; number = k }) f.2.target v.2 in
    let ends = same_end (places parts) t.0 e (record { place = n; side = side.In; number = k }) t.2 (actor_port parts side.In n k e inport) in
    (c.0, c.1, one_step parts.feeds c.0 (source_of f.0) e c.2 (f.0, among_at parts.feeds a.0 f.0 f.1, refl, t.1 ∙ ap Some ends))

no_supply : (o : Option Supply) (s : Supply) → o ≡ None → o ≡ Some s → ⊥
no_supply o s e f = let clash : None ≡ Some s = sym e ∙ f in cc

feeds_by : (parts : Parts) (wires : List Wire) (m : BTreeMap Port ℕ) (now : List Way) (e : End) (n k : ℕ) → IsJoined parts wires m → AreEnded (map (way_of (length parts.actors) m) wires) now
    → IsActorPort parts side.In n k e → (o : Option Supply) → supplied m now n k ≡ o → Feeds parts e o
feeds_by parts wires m now e n k j all inport None is = none
  where
    none : IsFed parts e → ⊥
    none (inl h) = no_supply (supplied m now n k) supplies.Void is (supply_reaches parts wires m now supplies.Void void e n k j all refl h inport)
    none (inr h) = no_supply (supplied m now n k) (supplies.Outport h.0 h.1) is (supply_reaches parts wires m now (supplies.Outport h.0 h.1) h.2 e n k j all h.3 h.4 inport)
feeds_by parts wires m now e n k j all inport (Some supplies.Void) is =
    let r = reaches_supply parts wires m now supplies.Void e n k j all inport is in
    subst (λ (x : End). Reaches parts.feeds x e) r.1 r.2
feeds_by parts wires m now e n k j all inport (Some (supplies.Outport actor number)) is =
    reaches_supply parts wires m now (supplies.Outport actor number) e n k j all inport is

pub are_supplied : (parts : Parts) (wires : List Wire) (m : BTreeMap Port ℕ) (now : List Way) → IsJoined parts wires m → AreEnded (map (way_of (length parts.actors) m) wires) now → AreSupplied parts (supplied m now)
are_supplied parts wires m now j all = record {
  feeds = λ n k e inport. feeds_by parts wires m now e n k j all inport (supplied m now n k) refl;
  one = λ n k from out e s inport outport reach. supply_reaches parts wires m now (supplies.Outport from out) s e n k j all outport reach inport;
}

-- ---- small numbers

pub small_source : (parts : Parts) (f : Feed) (w : Wire) (p : Port) → IsWire parts f w → w.source ≡ Some p → p.place < length parts.actors → p.number < 256
small_source parts f w p h is less = by_end (source_of f) (end_port (places parts) w.source (source_of f) p h.source is)
  where
    by_end : (e : End) → IsPortOf (places parts) e p → p.number < 256
    by_end void q = absurd q
    by_end (port path s name) q =
        let inside : p.place < length (actor_places parts) = omega (arith, actors_of parts, less) in
        let few = actor_few parts p.place q.place s (at_front (actor_places parts) (instance_places parts) p.place q.place q.there inside) in
        let below = slice_get_within (names_on s q.place) p.number name (number_at (names_on s q.place) p.number name q.number_is) in
        omega (arith, few, below)
