-- What the parts of the code refuse.
use Rattle.std.proofs.Common.{◌≡◌, ℕ, ◌+◌, ◌<◌, ◌≤◌, true, false, is_some, ◌⊎◌, inl, inr, List, [], ◌∷◌, ◌++◌, map, length, take, drop, get_or, slice_get, Option, Some, None, Result, Ok, Err, refl, sym, ◌∙◌, ap, subst, arith, add-one, append_assoc}
use Rattle.std.specs.BTreeMap.{BTreeMap}
use Rattle.std.proofs.lemmas.Bool.{cases_eq}
use Rattle.std.proofs.lemmas.List.{drop_more, length-map}
use Rattle.cv_expand.specs.declared.flat.Actor.{Actor}
use Rattle.cv_expand.specs.declared.flat.Feed.{Feed}
use Rattle.cv_expand.specs.declared.flat.Origin.{Origin}
use Rattle.cv_expand.specs.declared.flat.Origin.TheVariants as origins
use Rattle.cv_expand.specs.declared.flat.Parts.{Parts}
use Rattle.cv_expand.specs.declared.path.Step.{Step}
use Rattle.cv_expand.specs.declared.path.Step.TheVariants as steps
use Rattle.cv_syntax.specs.declared.tree.Target.{Target}
use Rattle.cv_syntax.specs.declared.tree.Target.TheVariants as targets
use Rattle.cv_expand.specs.Bodies.{Distinct}
use Rattle.cv_expand.proofs.Unless.{drop_read}
use Rattle.cv_kinds.specs.declared.network.Connection.{Connection}
use Rattle.cv_graph.specs.declared.fault.GraphFault.{GraphFault}
use Rattle.cv_graph.specs.declared.fault.GraphFault.TheVariants as faults
use Rattle.cv_graph.specs.declared.port.Port.{Port}
use Rattle.cv_graph.specs.declared.port.Side.{Side}
use Rattle.cv_graph.specs.declared.port.Side.TheVariants as side
use Rattle.cv_graph.specs.declared.port.Wire.{Wire}
use Rattle.cv_graph.specs.declared.ways.Supply.{Supply}
use Rattle.cv_graph.specs.Checks.{Check, Holds, fed_once, source_there, target_there, feed_checks, inport_checks, AllHold}
use Rattle.cv_graph.specs.Faults.{Faulty}
use Rattle.cv_graph.specs.Links.{AreSupplied, link, Linked, links_at, links_from}
use Rattle.cv_graph.specs.Ports.{Place, actor_place, actor_places, instance_places, places, target_of, HasPort, HasOrigin, HasTarget}
use Rattle.cv_graph.specs.Tables.{IsPort, PortTold, IsWire, AreWires, feeder, Indexed, Indexes, GoesTo}
use Rattle.cv_graph.proofs.Following.{wire_at, feed_at, aim_port, port_aim, same_end, same_port}
use Rattle.cv_graph.proofs.Judging.{Left}
use Rattle.cv_graph.proofs.Lookups.{behind_has, has_behind}
use Rattle.cv_graph.proofs.Lists.{among_at, place_among, front_at, push_at, at_behind}
use Rattle.cv_graph.proofs.Segments.{twice_stop, inport_stop}

-- want of memory is told of everything
pub memory : (parts : Parts) (cs : List Check) (e : GraphFault) → e ≡ faults.OutOfMemory → Faulty parts cs e
memory parts cs e is = subst (Faulty parts cs) (sym is) tt

-- ---- ports

pub told_port : (ps : List Place) (path : List Step) (s : Side) (name : List ℕ) (first at : ℕ) (e : GraphFault) → PortTold ps path s name first at (Err e)
    → (e ≡ faults.OutOfMemory) ⊎ ((e ≡ faults.NoPort at) × ((p : Port) → IsPort ps path s name p → first ≤ p.place → ⊥))
told_port ps path s name first at faults.OutOfMemory h = inl refl
told_port ps path s name first at (faults.NoKind x) h = inr h
told_port ps path s name first at (faults.Fraction x) h = inr h
told_port ps path s name first at (faults.BadArg x) h = inr h
told_port ps path s name first at (faults.NoPort x) h = inr h
told_port ps path s name first at (faults.FedTwice x) h = inr h
told_port ps path s name first at (faults.Unfed x) h = inr h
told_port ps path s name first at (faults.BatchOverQueue x) h = inr h

pub told_same : (ps : List Place) (s : Side) (at : ℕ) (r : Result Port GraphFault) (a b : List Step) (x y : List ℕ) (m n : ℕ) → a ≡ b → x ≡ y → m ≡ n → PortTold ps a s x m at r → PortTold ps b s y n at r
told_same ps s at r a b x y m n paths names firsts h =
    subst (λ (k : ℕ). PortTold ps b s y k at r) firsts (subst (λ (z : List ℕ). PortTold ps b s z m at r) names (subst (λ (q : List Step). PortTold ps q s x m at r) paths h))

-- the ports of a join

places_are : (parts : Parts) → length (actor_places parts) ≡ length parts.actors
places_are parts = length-map parts.actors actor_place

own_there : (parts : Parts) (path : List Step) (s : Side) (name : List ℕ) (p : Port) → IsPort (places parts) path s name p → length parts.actors ≤ p.place → HasPort (instance_places parts) path s name
own_there parts path s name p h less = let behind : length (actor_places parts) ≤ p.place = omega (arith, places_are parts, less) in behind_has (actor_places parts) (instance_places parts) path s name p h behind

own_missing : (parts : Parts) (path : List Step) (s : Side) (name : List ℕ) → ((p : Port) → IsPort (places parts) path s name p → length parts.actors ≤ p.place → ⊥) → HasPort (instance_places parts) path s name → ⊥
own_missing parts path s name none h = let r = has_behind (actor_places parts) (instance_places parts) path s name h in let less = r.2 in none r.0 r.1 (omega (arith, places_are parts, less))

any_there : (parts : Parts) (path : List Step) (s : Side) (name : List ℕ) (p : Port) → IsPort (places parts) path s name p → HasPort (places parts) path s name
any_there parts path s name p h = behind_has [] (places parts) path s name p h (omega arith)

any_missing : (parts : Parts) (path : List Step) (s : Side) (name : List ℕ) → ((p : Port) → IsPort (places parts) path s name p → 0 ≤ p.place → ⊥) → HasPort (places parts) path s name → ⊥
any_missing parts path s name none h = let r = has_behind [] (places parts) path s name h in none r.0 r.1 (omega arith)

pub source_own : (parts : Parts) (f : Feed) (name : List ℕ) (p : Port) → f.origin ≡ origins.Own name → PortTold (places parts) f.body side.In name (length parts.actors) f.at (Ok p) → AllHold parts (source_there f ∷ [])
source_own parts f name p is told = (subst (λ (o : Origin). HasOrigin parts f.body o) (sym is) (own_there parts f.body side.In name p told.0 told.1), tt)

pub source_own_not : (parts : Parts) (f : Feed) (name : List ℕ) (e : GraphFault) → f.origin ≡ origins.Own name → PortTold (places parts) f.body side.In name (length parts.actors) f.at (Err e) → Faulty parts (source_there f ∷ []) e
source_own_not parts f name e is told = elim (told_port (places parts) f.body side.In name (length parts.actors) f.at e told) [
  | inl m ↦ memory parts (source_there f ∷ []) e m
  | inr t ↦ subst (Faulty parts (source_there f ∷ [])) (sym t.0) (inl ((λ h. own_missing parts f.body side.In name t.1 (subst (λ (o : Origin). HasOrigin parts f.body o) is h)), refl))
]

pub source_port : (parts : Parts) (f : Feed) (s : Step) (path : List Step) (name : List ℕ) (p : Port) → f.origin ≡ origins.Port s name → path ≡ f.body ++ s ∷ [] → PortTold (places parts) path side.Out name 0 f.at (Ok p) → AllHold parts (source_there f ∷ [])
source_port parts f s path name p is there told = (subst (λ (o : Origin). HasOrigin parts f.body o) (sym is) (subst (λ (q : List Step). HasPort (places parts) q side.Out name) there (any_there parts path side.Out name p told.0)), tt)

pub source_port_not : (parts : Parts) (f : Feed) (s : Step) (path : List Step) (name : List ℕ) (e : GraphFault) → f.origin ≡ origins.Port s name → path ≡ f.body ++ s ∷ [] → PortTold (places parts) path side.Out name 0 f.at (Err e) → Faulty parts (source_there f ∷ []) e
source_port_not parts f s path name e is there told = elim (told_port (places parts) path side.Out name 0 f.at e told) [
  | inl m ↦ memory parts (source_there f ∷ []) e m
  | inr t ↦ subst (Faulty parts (source_there f ∷ [])) (sym t.0) (inl ((λ h. any_missing parts path side.Out name t.1 (subst (λ (q : List Step). HasPort (places parts) q side.Out name) (sym there) (subst (λ (o : Origin). HasOrigin parts f.body o) is h))), refl))
]

pub target_own : (parts : Parts) (f : Feed) (name : List ℕ) (p : Port) → f.target ≡ targets.Own name → PortTold (places parts) f.body side.Out name (length parts.actors) f.target_at (Ok p) → AllHold parts (target_there f ∷ [])
target_own parts f name p is told = (subst (λ (t : Target). HasTarget parts f.body t) (sym is) (own_there parts f.body side.Out name p told.0 told.1), tt)

pub target_own_not : (parts : Parts) (f : Feed) (name : List ℕ) (e : GraphFault) → f.target ≡ targets.Own name → PortTold (places parts) f.body side.Out name (length parts.actors) f.target_at (Err e) → Faulty parts (target_there f ∷ []) e
target_own_not parts f name e is told = elim (told_port (places parts) f.body side.Out name (length parts.actors) f.target_at e told) [
  | inl m ↦ memory parts (target_there f ∷ []) e m
  | inr t ↦ subst (Faulty parts (target_there f ∷ [])) (sym t.0) (inl ((λ h. own_missing parts f.body side.Out name t.1 (subst (λ (x : Target). HasTarget parts f.body x) is h)), refl))
]

pub target_port : (parts : Parts) (f : Feed) (actor name : List ℕ) (path : List Step) (p : Port) → f.target ≡ targets.Port actor name → path ≡ f.body ++ steps.Name actor ∷ [] → PortTold (places parts) path side.In name 0 f.target_at (Ok p) → AllHold parts (target_there f ∷ [])
target_port parts f actor name path p is there told = (subst (λ (t : Target). HasTarget parts f.body t) (sym is) (subst (λ (q : List Step). HasPort (places parts) q side.In name) there (any_there parts path side.In name p told.0)), tt)

pub target_port_not : (parts : Parts) (f : Feed) (actor name : List ℕ) (path : List Step) (e : GraphFault) → f.target ≡ targets.Port actor name → path ≡ f.body ++ steps.Name actor ∷ [] → PortTold (places parts) path side.In name 0 f.target_at (Err e) → Faulty parts (target_there f ∷ []) e
target_port_not parts f actor name path e is there told = elim (told_port (places parts) path side.In name 0 f.target_at e told) [
  | inl m ↦ memory parts (target_there f ∷ []) e m
  | inr t ↦ subst (Faulty parts (target_there f ∷ [])) (sym t.0) (inl ((λ h. any_missing parts path side.In name t.1 (subst (λ (q : List Step). HasPort (places parts) q side.In name) (sym there) (subst (λ (x : Target). HasTarget parts f.body x) is h))), refl))
]

-- ---- joins

told_twice : (ws : List Wire) (w : Wire) (at : ℕ) (e : GraphFault) → Indexes ws w at (Err e) → (e ≡ faults.OutOfMemory) ⊎ ((e ≡ faults.FedTwice at) × ((p : Port) × (w.target ≡ Some p) × GoesTo ws p))
told_twice ws w at faults.OutOfMemory h = inl refl
told_twice ws w at (faults.NoKind x) h = inr h
told_twice ws w at (faults.Fraction x) h = inr h
told_twice ws w at (faults.BadArg x) h = inr h
told_twice ws w at (faults.NoPort x) h = inr h
told_twice ws w at (faults.FedTwice x) h = inr h
told_twice ws w at (faults.Unfed x) h = inr h
told_twice ws w at (faults.BatchOverQueue x) h = inr h

twice : (parts : Parts) (before : List Feed) (wires : List Wire) (x : Feed) (w : Wire) (p : Port) → AreWires parts before wires → IsWire parts x w → w.target ≡ Some p → GoesTo wires p → Holds parts (fed_once before x) → ⊥
twice parts before wires x w p are is t goes once =
    let g = feed_at parts before wires goes.0 goes.1 are goes.2 in
    let a = port_aim (places parts) goes.1.target (target_of g.0) p g.2.target goes.3 in
    let b = port_aim (places parts) w.target (target_of x) p is.target t in
    once b.0 g.0 (among_at before goes.0 g.0 g.1) b.1 (a.1 ∙ ap Some (same_end (places parts) a.0 b.0 p a.2 b.2))

pub once : (parts : Parts) (before : List Feed) (wires : List Wire) (x : Feed) (w : Wire) → Distinct (map (λ p. p.path) (places parts)) → AreWires parts before wires → IsWire parts x w → ((p : Port) → w.target ≡ Some p → GoesTo wires p → ⊥) → Holds parts (fed_once before x)
once parts before wires x w apart are is none = λ e g among here_ there_.
    let n = place_among before g among in
    let v = wire_at parts before wires n.0 g are n.1 in
    let a = aim_port (places parts) v.0.target (target_of g) e v.2.target there_ in
    let b = aim_port (places parts) w.target (target_of x) e is.target here_ in
    let same = same_port (places parts) e a.0 b.0 apart a.2 b.2 in
    none b.0 b.1 (n.0, v.0, v.1, a.1 ∙ ap Some same)

pub wires_push : (parts : Parts) (before : List Feed) (wires : List Wire) (x : Feed) (w : Wire) → AreWires parts before wires → IsWire parts x w → AreWires parts (before ++ x ∷ []) (wires ++ w ∷ [])
wires_push parts [] [] x w h is = (is, tt)
wires_push parts [] (v ∷ wires) x w h is = absurd h
wires_push parts (f ∷ before) [] x w h is = absurd h
wires_push parts (f ∷ before) (v ∷ wires) x w h is = (h.0, wires_push parts before wires x w h.1 is)

pub wires_length : (parts : Parts) (feeds : List Feed) (wires : List Wire) → AreWires parts feeds wires → length feeds ≡ length wires
wires_length parts [] [] h = refl
wires_length parts [] (w ∷ wires) h = absurd h
wires_length parts (f ∷ feeds) [] h = absurd h
wires_length parts (f ∷ feeds) (w ∷ wires) h = let e = wires_length parts feeds wires h.1 in omega (arith, e)

pub stopped_twice : (parts : Parts) (all : List Check) (xs : List Feed) (wires : List Wire) (i : ℕ) (x : Feed) (w : Wire) (e : GraphFault) → i < length xs → x ≡ get_or xs i x → AreWires parts (take i xs) wires → IsWire parts x w → Left parts all (feed_checks (take i xs) (drop i xs)) → AllHold parts (source_there x ∷ target_there x ∷ [])
    → Indexes wires w x.target_at (Err e) → Faulty parts all e
stopped_twice parts all xs wires i x w e h g are is left ports told = elim (told_twice wires w x.target_at e told) [
  | inl m ↦ memory parts all e m
  | inr t ↦ subst (Faulty parts all) (sym t.0) (twice_stop parts all xs i x h g left ports (twice parts (take i xs) wires x w t.1.0 are is t.1.1 t.1.2))
]

-- ---- the map

indexed_none : (ws : List Wire) (w : Wire) (m : BTreeMap Port ℕ) → Indexed ws m → w.target ≡ None → Indexed (ws ++ w ∷ []) m
indexed_none ws w m known none = λ p n. (there p n, back p n)
  where
    there : (p : Port) (n : ℕ) → feeder m p ≡ Some n → (v : Wire) × (slice_get (ws ++ w ∷ []) n ≡ Some v) × (v.target ≡ Some p)
    there p n e = let r = (known p n).0 e in (r.0, front_at ws (w ∷ []) n r.0 r.1, r.2)

    back : (p : Port) (n : ℕ) → (v : Wire) × (slice_get (ws ++ w ∷ []) n ≡ Some v) × (v.target ≡ Some p) → feeder m p ≡ Some n
    back p n r = elim (push_at ws w n r.0 r.1) [
      | inl h ↦ (known p n).1 (r.0, h, r.2)
      | inr h ↦ let clash : None ≡ Some p = sym none ∙ ap (λ (x : Wire). x.target) h.1 ∙ r.2 in cc
    ]

pub indexes_none : (ws : List Wire) (w : Wire) (at : ℕ) (m : BTreeMap Port ℕ) → Indexed ws m → w.target ≡ None → Indexes ws w at (Ok m)
indexes_none ws w at m known none = (indexed_none ws w m known none, λ p e g. let clash : None ≡ Some p = sym none ∙ e in cc)

side_cases : (s t : Side) → (s ≡ t) ⊎ (s ≡ t → ⊥)
side_cases side.In side.In = inl refl
side_cases side.Out side.Out = inl refl
side_cases side.In side.Out = inr (λ e. cc)
side_cases side.Out side.In = inr (λ e. cc)

port_cases : (p q : Port) → (p ≡ q) ⊎ (p ≡ q → ⊥)
port_cases p q = elim (cases_eq p.place q.place) [
  | inl a ↦ elim (side_cases p.side q.side) [
    | inl b ↦ elim (cases_eq p.number q.number) [
      | inl c ↦ inl (λ i. record { place = a i; side = b i; number = c i })
      | inr n ↦ inr (λ e. n (ap (λ (x : Port). x.number) e))
    ]
    | inr n ↦ inr (λ e. n (ap (λ (x : Port). x.side) e))
  ]
  | inr n ↦ inr (λ e. n (ap (λ (x : Port). x.place) e))
]

last_at : (ws : List Wire) (w : Wire) (n : ℕ) → n ≡ length ws → slice_get (ws ++ w ∷ []) n ≡ Some w
last_at ws w n e = let same : n ≡ length ws + 0 = omega arith in subst (λ k. slice_get (ws ++ w ∷ []) k ≡ Some w) (sym same) (at_behind ws (w ∷ []) 0 w refl)

pub indexes_put : (ws : List Wire) (w : Wire) (at number : ℕ) (port : Port) (m more : BTreeMap Port ℕ) → Indexed ws m → number ≡ length ws → w.target ≡ Some port → feeder m port ≡ None → feeder more port ≡ Some number → ((q : Port) → (q ≡ port → ⊥) → feeder more q ≡ feeder m q)
    → Indexes ws w at (Ok more)
indexes_put ws w at number port m more known count aims none same others = ((λ p n. (there p n, back p n)), apart)
  where
    some_same : (x y : ℕ) → Some x ≡ Some y → x ≡ y
    some_same x y e = cc

    port_same : (x y : Port) → Some x ≡ Some y → x ≡ y
    port_same x y e = cc

    free : (n : ℕ) → feeder m port ≡ Some n → ⊥
    free n e = let clash : None ≡ Some n = sym none ∙ e in cc

    there : (p : Port) (n : ℕ) → feeder more p ≡ Some n → (v : Wire) × (slice_get (ws ++ w ∷ []) n ≡ Some v) × (v.target ≡ Some p)
    there p n e = elim (port_cases p port) [
      | inl is ↦ let number_is = some_same number n (sym same ∙ ap (feeder more) (sym is) ∙ e) in (w, last_at ws w n (sym number_is ∙ count), aims ∙ ap Some (sym is))
      | inr other ↦ let r = (known p n).0 (sym (others p other) ∙ e) in (r.0, front_at ws (w ∷ []) n r.0 r.1, r.2)
    ]

    back : (p : Port) (n : ℕ) → (v : Wire) × (slice_get (ws ++ w ∷ []) n ≡ Some v) × (v.target ≡ Some p) → feeder more p ≡ Some n
    back p n r = elim (push_at ws w n r.0 r.1) [
      | inl h ↦
          let old = (known p n).1 (r.0, h, r.2) in
          others p (λ is. free n (ap (feeder m) (sym is) ∙ old)) ∙ old
      | inr h ↦
          let is = port_same port p (sym aims ∙ ap (λ (x : Wire). x.target) h.1 ∙ r.2) in
          ap (feeder more) (sym is) ∙ same ∙ ap Some (count ∙ sym h.0)
    ]

    apart : (p : Port) → w.target ≡ Some p → GoesTo ws p → ⊥
    apart p e g = let is = port_same port p (sym aims ∙ e) in free g.0 (ap (feeder m) is ∙ (known p g.0).1 (g.1, g.2, g.3))

pub indexes_twice : (ws : List Wire) (w : Wire) (at n : ℕ) (port : Port) (m : BTreeMap Port ℕ) → Indexed ws m → w.target ≡ Some port → feeder m port ≡ Some n → Indexes ws w at (Err (faults.FedTwice at))
indexes_twice ws w at n port m known aims e = let r = (known port n).0 e in (refl, (port, aims, (n, r.0, r.1, r.2)))

-- ---- connections

told_unfed : (connections : List Connection) (to inp : ℕ) (supply : Option Supply) (at : ℕ) (e : GraphFault) → Linked connections to inp supply at (Err e) → (e ≡ faults.OutOfMemory) ⊎ ((e ≡ faults.Unfed at) × (supply ≡ None))
told_unfed connections to inp supply at faults.OutOfMemory h = inl refl
told_unfed connections to inp supply at (faults.NoKind x) h = inr h
told_unfed connections to inp supply at (faults.Fraction x) h = inr h
told_unfed connections to inp supply at (faults.BadArg x) h = inr h
told_unfed connections to inp supply at (faults.NoPort x) h = inr h
told_unfed connections to inp supply at (faults.FedTwice x) h = inr h
told_unfed connections to inp supply at (faults.Unfed x) h = inr h
told_unfed connections to inp supply at (faults.BatchOverQueue x) h = inr h

pub stopped_unfed : (parts : Parts) (all : List Check) (supply : ℕ → ℕ → Option Supply) (a : Actor) (to n : ℕ) (connections : List Connection) (e : GraphFault) → AreSupplied parts supply → slice_get parts.actors to ≡ Some a → n < length (actor_place a).inports → Left parts all (inport_checks a (drop n (actor_place a).inports))
    → Linked connections to n (supply to n) a.at (Err e) → Faulty parts all e
stopped_unfed parts all supply a to n connections e known at inside left told = elim (told_unfed connections to n (supply to n) a.at e told) [
  | inl m ↦ memory parts all e m
  | inr t ↦ subst (Faulty parts all) (sym t.0) (inport_stop parts all supply a to n known at inside left t.1)
]

pub links_next : (connections more all : List Connection) (supply : ℕ → ℕ → Option Supply) (to n : ℕ) (names : List (List ℕ)) → n < length names → more ≡ connections ++ link to n (supply to n) → connections ++ links_at supply to n (drop n names) ≡ all → more ++ links_at supply to (n + 1) (drop (n + 1) names) ≡ all
links_next connections more all supply to n names inside is left =
    ap (λ (js : List Connection). js ++ links_at supply to (n + 1) (drop (n + 1) names)) is
    ∙ append_assoc connections (link to n (supply to n)) (links_at supply to (n + 1) (drop (n + 1) names))
    ∙ ap (λ (k : ℕ). connections ++ (link to n (supply to n) ++ links_at supply to k (drop (n + 1) names))) (add-one n)
    ∙ ap (λ (l : List (List ℕ)). connections ++ links_at supply to n l) (sym (drop_more names n [] inside))
    ∙ left

pub from_next : (connections more all : List Connection) (supply : ℕ → ℕ → Option Supply) (i : ℕ) (xs : List Actor) (x : Actor) → i < length xs → x ≡ get_or xs i x → more ≡ connections ++ links_at supply i 0 (actor_place x).inports → connections ++ links_from supply i (map actor_place (drop i xs)) ≡ all
    → more ++ links_from supply (i + 1) (map actor_place (drop (i + 1) xs)) ≡ all
from_next connections more all supply i xs x inside e is left =
    ap (λ (js : List Connection). js ++ links_from supply (i + 1) (map actor_place (drop (i + 1) xs))) is
    ∙ append_assoc connections (links_at supply i 0 (actor_place x).inports) (links_from supply (i + 1) (map actor_place (drop (i + 1) xs)))
    ∙ ap (λ (k : ℕ). connections ++ (links_at supply i 0 (actor_place x).inports ++ links_from supply k (map actor_place (drop (i + 1) xs)))) (add-one i)
    ∙ ap (λ (l : List Actor). connections ++ links_from supply i (map actor_place l)) (sym (drop_read xs i x inside e))
    ∙ left

pub some_of : (o : Option ℕ) → is_some o ≡ true → (n : ℕ) × (o ≡ Some n)
some_of None e = cc
some_of (Some n) e = (n, refl)

pub none_of : (o : Option ℕ) → is_some o ≡ false → o ≡ None
none_of None e = refl
none_of (Some n) e = cc
