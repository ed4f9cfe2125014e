-- What is made of the events of a walk: the first fault is the answer.
use Rattle.std.specs.Prelude.{◌≡◌, ℕ, ◌+◌, nat_lt, if◌then◌else◌, List, [], ◌∷◌, ◌++◌, length, Option, Some, None, Result, Ok, Err}
use Rattle.cv_expand.specs.declared.fault.ExpandFault.{ExpandFault}
use Rattle.cv_expand.specs.declared.fault.ExpandFault.TheVariants as faults
use Rattle.cv_expand.specs.declared.flat.Actor.{Actor}
use Rattle.cv_expand.specs.declared.flat.Instance.{Instance}
use Rattle.cv_expand.specs.declared.flat.Feed.{Feed}
use Rattle.cv_expand.specs.declared.flat.Parts.{Parts}
use Rattle.cv_expand.specs.Walk.{Event, bad, actor_met, instance_met, feed_met}

-- at most 256 actors and instances together, and at most 4,096 joins
abbrev pub most_places : ℕ
most_places = 256

abbrev pub most_feeds : ℕ
most_feeds = 4096

abbrev pub place_count : Parts → ℕ
place_count f = length f.actors + length f.instances

abbrev pub with_actor : Parts → Actor → Parts
with_actor f a = record { actors = f.actors ++ a ∷ []; instances = f.instances; feeds = f.feeds; rules = f.rules; applies = f.applies }

abbrev pub with_instance : Parts → Instance → Parts
with_instance f i = record { actors = f.actors; instances = f.instances ++ i ∷ []; feeds = f.feeds; rules = f.rules; applies = f.applies }

abbrev pub with_feed : Parts → Feed → Parts
with_feed f j = record { actors = f.actors; instances = f.instances; feeds = f.feeds ++ j ∷ []; rules = f.rules; applies = f.applies }

abbrev pub take_in : Parts → Event → Result Parts ExpandFault
take_in f (bad fault) = Err fault
take_in f (actor_met a) = if nat_lt (place_count f) most_places then Ok (with_actor f a) else Err (faults.TooMany a.at)
take_in f (instance_met i) = if nat_lt (place_count f) most_places then Ok (with_instance f i) else Err (faults.TooMany i.at)
take_in f (feed_met j) = if nat_lt (length f.feeds) most_feeds then Ok (with_feed f j) else Err (faults.TooMany j.at)

-- what comes next, where nothing failed
abbrev pub goes_on : {X Y : Type 0} → Result X ExpandFault → (X → Result Y ExpandFault) → Result Y ExpandFault
goes_on (Ok x) next = next x
goes_on (Err fault) next = Err fault

abbrev pub run : Parts → List Event → Result Parts ExpandFault
run f [] = Ok f
run f (e ∷ es) = goes_on (take_in f e) (λ g. run g es)

-- ---- answers

-- the fault of a result
abbrev pub failure : {X : Type 0} → Result X ExpandFault → Option ExpandFault
failure (Ok x) = None
failure (Err fault) = Some fault

-- a fault that was answered is the one that is meant; want of memory may come at any time
abbrev pub FailsAs : ExpandFault → Option ExpandFault → Type 0
FailsAs faults.OutOfMemory meant = Unit {0}
FailsAs (faults.NoComponent at) meant = meant ≡ Some (faults.NoComponent at)
FailsAs (faults.Recursion at) meant = meant ≡ Some (faults.Recursion at)
FailsAs (faults.ArgCount at) meant = meant ≡ Some (faults.ArgCount at)
FailsAs (faults.NoArg at) meant = meant ≡ Some (faults.NoArg at)
FailsAs (faults.DoubleName at) meant = meant ≡ Some (faults.DoubleName at)
FailsAs (faults.TooMany at) meant = meant ≡ Some (faults.TooMany at)

-- what was answered is what is meant, but for want of memory
abbrev pub Answers : {X : Type 0} → Result X ExpandFault → Result X ExpandFault → Type 0
Answers (Ok x) meant = meant ≡ Ok x
Answers (Err fault) meant = FailsAs fault (failure meant)

-- x, where nothing is wrong; else the first that is
abbrev pub unless : {X : Type 0} → List ExpandFault → X → Result X ExpandFault
unless [] x = Ok x
unless (fault ∷ fs) x = Err fault
