-- What is made of events that hold no fault: those of each sort, in order.
use Rattle.std.proofs.Common.{◌≡◌, Bool, true, false, if◌then◌else◌, List, [], ◌∷◌, ◌++◌, ◌⊎◌, inl, inr, Result, Ok, Err, refl, sym, ◌∙◌, ap, subst, append_assoc}
use Rattle.std.specs.Prelude.{nat_lt, length}
use Rattle.std.proofs.lemmas.List.{append-nil}
use Rattle.cv_expand.specs.declared.fault.ExpandFault.{ExpandFault}
use Rattle.cv_expand.specs.declared.fault.ExpandFault.TheVariants as faults
use Rattle.cv_expand.specs.declared.flat.Actor.{Actor}
use Rattle.cv_expand.specs.declared.flat.Instance.{Instance}
use Rattle.cv_expand.specs.declared.flat.Feed.{Feed}
use Rattle.cv_expand.specs.declared.flat.Parts.{Parts}
use Rattle.cv_expand.specs.Walk.{Event, bad, actor_met, instance_met, feed_met, bads}
use Rattle.cv_expand.specs.Runs.{take_in, goes_on, run, most_places, most_feeds, place_count, with_actor, with_instance, with_feed}
use Rattle.cv_expand.specs.Bodies.{Among}
use Rattle.cv_expand.proofs.Among.{Among-append_left, Among-append_right, Among-append_cases}
use Rattle.cv_expand.proofs.Leading.{NoBad}

-- what is picked from each event
abbrev pub gather : {X : Type 0} → (Event → List X) → List Event → List X
gather pick [] = []
gather pick (e ∷ es) = pick e ++ gather pick es

pub gather-append : {X : Type 0} (pick : Event → List X) (es gs : List Event) → gather pick (es ++ gs) ≡ gather pick es ++ gather pick gs
gather-append pick [] gs = refl
gather-append pick (e ∷ es) gs = ap (λ xs. pick e ++ xs) (gather-append pick es gs) ∙ sym (append_assoc (pick e) (gather pick es) (gather pick gs))

pub Among-gather : {X : Type 0} (pick : Event → List X) (es : List Event) (e : Event) (x : X) → Among es e → Among (pick e) x → Among (gather pick es) x
Among-gather pick [] e x there h = absurd there
Among-gather pick (g ∷ es) e x (inl is) h = Among-append_left (pick g) (gather pick es) x (subst (λ k. Among (pick k) x) (sym is) h)
Among-gather pick (g ∷ es) e x (inr there) h = Among-append_right (pick g) (gather pick es) x (Among-gather pick es e x there h)

gathered_further : {X : Type 0} (pick : Event → List X) (g : Event) (es : List Event) (x : X) → Among (pick g) x ⊎ ((e : Event) × Among es e × Among (pick e) x) → (e : Event) × Among (g ∷ es) e × Among (pick e) x
gathered_further pick g es x (inl h) = (g, inl refl, h)
gathered_further pick g es x (inr r) = (r.0, inr r.1, r.2)

later_or : {A B C : Type 0} → A ⊎ B → (B → C) → A ⊎ C
later_or (inl a) f = inl a
later_or (inr b) f = inr (f b)

pub gathered : {X : Type 0} (pick : Event → List X) (es : List Event) (x : X) → Among (gather pick es) x → (e : Event) × Among es e × Among (pick e) x
gathered pick [] x h = absurd h
gathered pick (g ∷ es) x h = gathered_further pick g es x (later_or (Among-append_cases (pick g) (gather pick es) x h) (gathered pick es x))

-- ---- the sorts

abbrev pub actor_in : Event → List Actor
actor_in (actor_met a) = a ∷ []
actor_in (bad fault) = []
actor_in (instance_met i) = []
actor_in (feed_met f) = []

abbrev pub instance_in : Event → List Instance
instance_in (instance_met i) = i ∷ []
instance_in (bad fault) = []
instance_in (actor_met a) = []
instance_in (feed_met f) = []

abbrev pub feed_in : Event → List Feed
feed_in (feed_met f) = f ∷ []
feed_in (bad fault) = []
feed_in (actor_met a) = []
feed_in (instance_met i) = []

pub is_actor : (e : Event) (a : Actor) → Among (actor_in e) a → e ≡ actor_met a
is_actor (actor_met b) a (inl is) = ap actor_met is
is_actor (actor_met b) a (inr h) = absurd h
is_actor (bad fault) a h = absurd h
is_actor (instance_met i) a h = absurd h
is_actor (feed_met f) a h = absurd h

pub is_instance : (e : Event) (i : Instance) → Among (instance_in e) i → e ≡ instance_met i
is_instance (instance_met j) i (inl is) = ap instance_met is
is_instance (instance_met j) i (inr h) = absurd h
is_instance (bad fault) i h = absurd h
is_instance (actor_met a) i h = absurd h
is_instance (feed_met f) i h = absurd h

pub is_feed : (e : Event) (f : Feed) → Among (feed_in e) f → e ≡ feed_met f
is_feed (feed_met g) f (inl is) = ap feed_met is
is_feed (feed_met g) f (inr h) = absurd h
is_feed (bad fault) f h = absurd h
is_feed (actor_met a) f h = absurd h
is_feed (instance_met i) f h = absurd h

-- the parts h are f with what was met
pub record Grown (f h : Parts) (actors : List Actor) (instances : List Instance) (feeds : List Feed) : Type 0 where
  pub actors_are : h.actors ≡ f.actors ++ actors
  pub instances_are : h.instances ≡ f.instances ++ instances
  pub feeds_are : h.feeds ≡ f.feeds ++ feeds
  pub rules_are : h.rules ≡ f.rules
  pub applies_are : h.applies ≡ f.applies

grown_twice : (f g h : Parts) (xs ys : List Actor) (is js : List Instance) (fs gs : List Feed) → Grown f g xs is fs → Grown g h ys js gs → Grown f h (xs ++ ys) (is ++ js) (fs ++ gs)
grown_twice f g h xs ys is js fs gs first second = record {
  actors_are = second.actors_are ∙ ap (λ zs. zs ++ ys) first.actors_are ∙ append_assoc f.actors xs ys;
  instances_are = second.instances_are ∙ ap (λ zs. zs ++ js) first.instances_are ∙ append_assoc f.instances is js;
  feeds_are = second.feeds_are ∙ ap (λ zs. zs ++ gs) first.feeds_are ∙ append_assoc f.feeds fs gs;
  rules_are = second.rules_are ∙ first.rules_are;
  applies_are = second.applies_are ∙ first.applies_are;
}

no_change : (f h : Parts) → f ≡ h → Grown f h [] [] []
no_change f h same = record {
  actors_are = ap (λ p. p.actors) (sym same) ∙ sym (append-nil f.actors);
  instances_are = ap (λ p. p.instances) (sym same) ∙ sym (append-nil f.instances);
  feeds_are = ap (λ p. p.feeds) (sym same) ∙ sym (append-nil f.feeds);
  rules_are = ap (λ p. p.rules) (sym same);
  applies_are = ap (λ p. p.applies) (sym same);
}

-- where there is room
put_in : (b : Bool) (f h : Parts) (fault : ExpandFault) → (if b then Ok f else Err fault) ≡ Ok h → f ≡ h
put_in true f h fault e = cc
put_in false f h fault e = cc

grown_by : (f h : Parts) (e : Event) → take_in f e ≡ Ok h → Grown f h (actor_in e) (instance_in e) (feed_in e)
grown_by f h (bad fault) took = cc
grown_by f h (actor_met a) took =
    let is = put_in (nat_lt (place_count f) most_places) (with_actor f a) h (faults.TooMany a.at) took in
    record {
      actors_are = ap (λ p. p.actors) (sym is);
      instances_are = ap (λ p. p.instances) (sym is) ∙ sym (append-nil f.instances);
      feeds_are = ap (λ p. p.feeds) (sym is) ∙ sym (append-nil f.feeds);
      rules_are = ap (λ p. p.rules) (sym is);
      applies_are = ap (λ p. p.applies) (sym is);
    }
grown_by f h (instance_met i) took =
    let is = put_in (nat_lt (place_count f) most_places) (with_instance f i) h (faults.TooMany i.at) took in
    record {
      actors_are = ap (λ p. p.actors) (sym is) ∙ sym (append-nil f.actors);
      instances_are = ap (λ p. p.instances) (sym is);
      feeds_are = ap (λ p. p.feeds) (sym is) ∙ sym (append-nil f.feeds);
      rules_are = ap (λ p. p.rules) (sym is);
      applies_are = ap (λ p. p.applies) (sym is);
    }
grown_by f h (feed_met j) took =
    let is = put_in (nat_lt (length f.feeds) most_feeds) (with_feed f j) h (faults.TooMany j.at) took in
    record {
      actors_are = ap (λ p. p.actors) (sym is) ∙ sym (append-nil f.actors);
      instances_are = ap (λ p. p.instances) (sym is) ∙ sym (append-nil f.instances);
      feeds_are = ap (λ p. p.feeds) (sym is);
      rules_are = ap (λ p. p.rules) (sym is);
      applies_are = ap (λ p. p.applies) (sym is);
    }

went_on : (r : Result Parts ExpandFault) (next : Parts → Result Parts ExpandFault) (g : Parts) → goes_on r next ≡ Ok g → (h : Parts) × (r ≡ Ok h) × (next h ≡ Ok g)
went_on (Ok h) next g e = (h, refl, e)
went_on (Err fault) next g e = cc

pub grown : (f g : Parts) (es : List Event) → run f es ≡ Ok g → Grown f g (gather actor_in es) (gather instance_in es) (gather feed_in es)
grown f g [] e = no_change f g cc
grown f g (x ∷ es) e =
    let r = went_on (take_in f x) (λ h. run h es) g e in
    grown_twice f r.0 g (actor_in x) (gather actor_in es) (instance_in x) (gather instance_in es) (feed_in x) (gather feed_in es) (grown_by f r.0 x r.1) (grown r.0 g es r.2)

pub no_bad : (f g : Parts) (es : List Event) → run f es ≡ Ok g → NoBad es
no_bad f g [] e fault h = h
no_bad f g (x ∷ es) e fault (inl is) =
    let r = went_on (take_in f x) (λ h. run h es) g e in
    let took : take_in f (bad fault) ≡ Ok r.0 = subst (λ y. take_in f y ≡ Ok r.0) is r.1 in cc
no_bad f g (x ∷ es) e fault (inr h) =
    let r = went_on (take_in f x) (λ h. run h es) g e in
    no_bad r.0 g es r.2 fault h

-- there were no faults in front
pub none_in_front : (f g : Parts) (fs : List ExpandFault) (es : List Event) → run f (bads fs ++ es) ≡ Ok g → run f es ≡ Ok g
none_in_front f g [] es e = e
none_in_front f g (fault ∷ fs) es e = cc
