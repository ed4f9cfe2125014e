-- What was made is within the bounds.
use Rattle.std.proofs.Common.{◌≡◌, Bool, true, false, if◌then◌else◌, List, [], ◌∷◌, length, Result, Ok, Err, refl, subst, arith}
use Rattle.std.specs.Prelude.{nat_lt}
use Rattle.std.proofs.lemmas.List.{length-append}
use Rattle.std.proofs.lemmas.Bool.Decides.{nat_tests}
use Rattle.std.proofs.lemmas.Grind.{common_steps}
use Rattle.cv_syntax.specs.declared.tree.Item.{Item}
use Rattle.cv_expand.specs.declared.fault.ExpandFault.{ExpandFault}
use Rattle.cv_expand.specs.declared.flat.Actor.{Actor}
use Rattle.cv_expand.specs.declared.flat.Instance.{Instance}
use Rattle.cv_expand.specs.declared.flat.Feed.{Feed}
use Rattle.cv_expand.specs.declared.flat.Parts.{Parts}
use Rattle.cv_expand.specs.Flat.{AreFew}
use Rattle.cv_expand.specs.Walk.{Event, bad, actor_met, instance_met, feed_met}
use Rattle.cv_expand.specs.Meaning.{unwalked}
use Rattle.cv_expand.specs.Runs.{take_in, goes_on, run, most_places, most_feeds, place_count, with_actor, with_instance, with_feed}

few_actor : (f g : Parts) (a : Actor) (fault : ExpandFault) (b : Bool) → nat_lt (place_count f) most_places ≡ b → AreFew f → (if b then Ok (with_actor f a) else Err fault) ≡ Ok g → AreFew g
few_actor f g a fault true room few e =
    let same : with_actor f a ≡ g = cc in
    subst AreFew same (record { places = grind (arith, nat_tests, common_steps, room, few.places, length-append f.actors (a ∷ [])); feeds = few.feeds })
few_actor f g a fault false room few e = cc

few_instance : (f g : Parts) (i : Instance) (fault : ExpandFault) (b : Bool) → nat_lt (place_count f) most_places ≡ b → AreFew f → (if b then Ok (with_instance f i) else Err fault) ≡ Ok g → AreFew g
few_instance f g x fault true room few e =
    let same : with_instance f x ≡ g = cc in
    subst AreFew same (record { places = grind (arith, nat_tests, common_steps, room, few.places, length-append f.instances (x ∷ [])); feeds = few.feeds })
few_instance f g x fault false room few e = cc

few_feed : (f g : Parts) (j : Feed) (fault : ExpandFault) (b : Bool) → nat_lt (length f.feeds) most_feeds ≡ b → AreFew f → (if b then Ok (with_feed f j) else Err fault) ≡ Ok g → AreFew g
few_feed f g j fault true room few e =
    let same : with_feed f j ≡ g = cc in
    subst AreFew same (record { places = few.places; feeds = grind (arith, nat_tests, common_steps, room, few.feeds, length-append f.feeds (j ∷ [])) })
few_feed f g j fault false room few e = cc

few_taken : (f g : Parts) (e : Event) → AreFew f → take_in f e ≡ Ok g → AreFew g
few_taken f g (bad fault) few is = cc
few_taken f g (actor_met a) few is = few_actor f g a _ _ refl few is
few_taken f g (instance_met x) few is = few_instance f g x _ _ refl few is
few_taken f g (feed_met j) few is = few_feed f g j _ _ refl few is

goes_on_ok : {X Y : Type 0} (r : Result X ExpandFault) (next : X → Result Y ExpandFault) (y : Y) → goes_on r next ≡ Ok y → (x : X) × (r ≡ Ok x) × (next x ≡ Ok y)
goes_on_ok (Ok x) next y e = (x, refl, e)
goes_on_ok (Err fault) next y e = cc

few_run : (f g : Parts) (es : List Event) → AreFew f → run f es ≡ Ok g → AreFew g
few_run f g [] few is = let same : f ≡ g = cc in subst AreFew same few
few_run f g (e ∷ es) few is =
    let w = goes_on_ok (take_in f e) (λ h. run h es) g is in
    few_run w.0 g es (few_taken f w.0 e few w.1) w.2

pub few_made : (script : List Item) (es : List Event) (g : Parts) → run (unwalked script) es ≡ Ok g → AreFew g
few_made script es g is = few_run (unwalked script) g es (record { places = omega arith; feeds = omega arith }) is
