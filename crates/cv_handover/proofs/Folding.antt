-- The fold over deeds and the one runtime of each application's network go together.
use Rattle.std.proofs.Common.{◌≡◌, inl, inr, ℕ, ◌<◌, Bool, true, false, true≢false, ◌&&◌, List, [], ◌∷◌, ◌++◌, length, Option, Some, None, refl, sym, ap, subst, ◌∙◌, arith, if◌then◌else◌}
use Rattle.std.specs.Prelude.{nat_lt, option_and_then, option_to_list}
use Rattle.std.proofs.lemmas.Bool.{and_parts}
use Rattle.std.proofs.lemmas.Bool.Decides.{nat_tests}
use Rattle.std.proofs.lemmas.List.{append-nil}
use Rattle.std.proofs.lemmas.Option.{same_Some, none-some as none_some}
use Rattle.cv_token.specs.declared.token.Token.{Token}
use Rattle.cv_token.specs.declared.identifiers.AppId.{AppId}
use Rattle.cv_token.specs.declared.identifiers.ActorId.{ActorId}
use Rattle.cv_token.specs.declared.identifiers.ConnId.{ConnId}
use Rattle.cv_table.specs.Order.{same_app}
use Rattle.cv_table.proofs.Views.{same_app-cases, same_actor-cases}
use Rattle.cv_kinds.specs.Net.{Net}
use Rattle.cv_kinds.specs.Wired.{IsWired}
use Rattle.cv_queue.proofs.Lists.{slice_get_some}
use Rattle.cv_solo.specs.OneRuntime.{Runtime, fire, solo_from}
use Rattle.cv_protocol.specs.Owners.{Owner, Owners, Nowhere, At, Between, is_at, is_coming, is_going, is_of, with_owner, with_deployed, without_app, where_so, owners_after}
use Rattle.cv_protocol.specs.Rows.{Deed, Nothing, Deployed, Used, Fired_action, Passed, Received, Froze, Accepted_here, Resumed, Removed, Destroyed_here}
use Rattle.cv_handover.specs.Alone.{AreListed}
use Rattle.cv_handover.specs.Meaning.{Nets, Meaning, fresh, effect_in, may_fire, wrote_after, took_after, fires, fires_if, comes_in, streams_after, with_owners, means}
use Rattle.cv_handover.specs.Runtimes.{slots_in, stream_in, runtime_of, firing_of, IsOfNets}
use Rattle.cv_handover.proofs.Finding.{need_found, gift_found}
use Rattle.cv_handover.proofs.Listing.{listed_same}
use Rattle.cv_handover.proofs.Soloing.{solo_fires}
use Rattle.cv_handover.proofs.Wiring.{fed_place, read_place, conn_in}
use Rattle.cv_handover.proofs.Firing.{need_in}

-- 1. Who lives or is on its way is an actor of its network

somewhere_at : (i : ℕ) (o : Owner) → is_at i o ≡ true → (o ≡ Nowhere) → ⊥
somewhere_at i Nowhere is e = cc
somewhere_at i (At j) is e = cc
somewhere_at i (Between s t k) is e = cc

somewhere_coming : (i k : ℕ) (o : Owner) → is_coming i k o ≡ true → (o ≡ Nowhere) → ⊥
somewhere_coming i k Nowhere is e = cc
somewhere_coming i k (At j) is e = cc
somewhere_coming i k (Between s t d) is e = cc

somewhere_going : (i k : ℕ) (o : Owner) → is_going i k o ≡ true → (o ≡ Nowhere) → ⊥
somewhere_going i k Nowhere is e = cc
somewhere_going i k (At j) is e = cc
somewhere_going i k (Between s t d) is e = cc

-- the deed's test held, and these are the owners
allowed : (b : Bool) (own after : Owners) → where_so b own ≡ Some after → (b ≡ true) × (own ≡ after)
allowed false own after e = absurd (none_some after e)
allowed true own after e = (refl, same_Some own after e)

listed_put : (n : Nets) (own : Owners) (a : ActorId) (o : Owner) → AreListed n own → ((own a ≡ Nowhere) → ⊥) → AreListed n (with_owner own a o)
listed_put n own a o q there = record {
  listed =
      λ b some.
      elim (same_actor-cases b a) [
        | inl s ↦ q.listed b (λ e. there (ap own (sym s.1) ∙ e))
        | inr s ↦ q.listed b (λ e. some (ap (λ (t : Bool). if t then o else own b) s.0 ∙ e))
      ];
}

is_listed : (n : Nets) (app : AppId) (net : Net) (b : ActorId) (t : Bool) → is_of app net b ≡ t → net ≡ n.net app → (t ≡ true) → b.actor < length (n.net b.app).actors
is_listed n app net b t is same on =
    let both = and_parts (same_app b.app app) (nat_lt b.actor (length net.actors)) (is ∙ on) in
    let less : nat_lt b.actor (length net.actors) ≡ true = both.1 in
    let l : b.actor < length net.actors = grind (arith, nat_tests, less) in
    elim (same_app-cases b.app app) [
      | inl s ↦ subst (λ (k : Net). b.actor < length k.actors) (same ∙ ap n.net (sym s.1)) l
      | inr s ↦ absurd (true≢false (sym both.0 ∙ s.0))
    ]

deployed_test : (n : Nets) (own : Owners) (i : ℕ) (app : AppId) (net : Net) → AreListed n own → net ≡ n.net app → (b : ActorId) (t : Bool) → is_of app net b ≡ t → (((if t then At i else own b) ≡ Nowhere) → ⊥) → b.actor < length (n.net b.app).actors
deployed_test n own i app net q same b true is some = is_listed n app net b true is same refl
deployed_test n own i app net q same b false is some = q.listed b some

listed_deployed : (n : Nets) (own : Owners) (i : ℕ) (app : AppId) (net : Net) → AreListed n own → net ≡ n.net app → AreListed n (with_deployed own i app net)
listed_deployed n own i app net q same = record { listed = λ b some. deployed_test n own i app net q same b (is_of app net b) refl some }

destroyed_test : (n : Nets) (own : Owners) → AreListed n own → (b : ActorId) (t : Bool) → (((if t then Nowhere else own b) ≡ Nowhere) → ⊥) → b.actor < length (n.net b.app).actors
destroyed_test n own q b true some = absurd (some refl)
destroyed_test n own q b false some = q.listed b some

listed_destroyed : (n : Nets) (own : Owners) (i : ℕ) (app : AppId) → AreListed n own → AreListed n (without_app own i app)
listed_destroyed n own i app q = record { listed = λ b some. destroyed_test n own q b (same_app b.app app && is_at i (own b)) some }

pub listed_after : (n : Nets) (own after : Owners) (i : ℕ) (d : Deed) → IsOfNets n d → AreListed n own → owners_after own i d ≡ Some after → AreListed n after
listed_after n own after i Nothing carries q e = subst (AreListed n) (same_Some own after e) q
listed_after n own after i (Deployed app net) carries q e = subst (AreListed n) (same_Some (with_deployed own i app net) after e) (listed_deployed n own i app net q carries)
listed_after n own after i (Used a) carries q e = subst (AreListed n) (allowed (is_at i (own a)) own after e).1 q
listed_after n own after i (Fired_action a action) carries q e = subst (AreListed n) (allowed (is_at i (own a)) own after e).1 q
listed_after n own after i (Passed a b c token) carries q e = subst (AreListed n) (allowed (is_at i (own a) && is_at i (own b)) own after e).1 q
listed_after n own after i (Received a c t) carries q e = subst (AreListed n) (allowed (is_at i (own a)) own after e).1 q
listed_after n own after i (Froze a to k) carries q e =
    let s = allowed (is_at i (own a)) (with_owner own a (Between i to k)) after e in
    subst (AreListed n) s.1 (listed_put n own a (Between i to k) q (somewhere_at i (own a) s.0))
listed_after n own after i (Accepted_here a k) carries q e =
    let s = allowed (is_coming i k (own a)) (with_owner own a (At i)) after e in
    subst (AreListed n) s.1 (listed_put n own a (At i) q (somewhere_coming i k (own a) s.0))
listed_after n own after i (Resumed a k) carries q e =
    let s = allowed (is_going i k (own a)) (with_owner own a (At i)) after e in
    subst (AreListed n) s.1 (listed_put n own a (At i) q (somewhere_going i k (own a) s.0))
listed_after n own after i (Removed a k) carries q e =
    let s = allowed (is_going i k (own a)) (with_owner own a Nowhere) after e in
    subst (AreListed n) s.1 (listed_put n own a Nowhere q (somewhere_going i k (own a) s.0))
listed_after n own after i (Destroyed_here app) carries q e = subst (AreListed n) (same_Some (without_app own i app) after e) (listed_destroyed n own i app q)

-- 2. A firing of another application

module _ (n : Nets) (m : Meaning) (a : ActorId) (action : ℕ) (app : AppId) (other : (a.app ≡ app) → ⊥) where
  slot_elsewhere : (k : ℕ) → slots_in (fires n m a action) app k ≡ slots_in m app k
  slot_elsewhere k =
      elim (same_actor-cases (record { app = app; actor = k }) a) [
        | inl s ↦ absurd (other (ap (λ (b : ActorId). b.app) (sym s.1)))
        | inr s ↦ ap (λ (t : Bool). if t then (effect_in n m a action).state else m.slots (record { app = app; actor = k })) s.0
      ]

  wrote_elsewhere : (c : ConnId) → c.app ≡ app → wrote_after n m a action c ≡ m.wrote c
  wrote_elsewhere c at_app =
      elim (gift_found (effect_in n m a action).out (fresh n a).outs c) [
        | inl f ↦ absurd (other (sym (read_place n a f.place c (record { conns = f.conns; port = f.port; number = f.number; reads = f.reads })).0.app ∙ at_app))
        | inr f ↦ ap (λ (ts : List Token). m.wrote c ++ ts) f.given ∙ append-nil (m.wrote c)
      ]

  took_elsewhere : (c : ConnId) → c.app ≡ app → took_after n m a action c ≡ m.took c
  took_elsewhere c at_app =
      elim (need_found (need_in n a action) 0 (fresh n a).ins c) [
        | inl f ↦ absurd (other (sym (fed_place n a f.place c f.feeds).0.app ∙ at_app))
        | inr f ↦ let z = f.needed in omega (arith, z)
      ]

  stream_elsewhere : (k : ℕ) → stream_in (fires n m a action) app k ≡ stream_in m app k
  stream_elsewhere k = λ z. record { wrote = wrote_elsewhere (conn_in app k) refl z; took = took_elsewhere (conn_in app k) refl z }

  elsewhere_app : runtime_of n (fires n m a action) app ≡ runtime_of n m app
  elsewhere_app =
      let slots = listed_same (slots_in (fires n m a action) app) (slots_in m app) 0 (length (n.net app).actors) slot_elsewhere in
      let streams = listed_same (stream_in (fires n m a action) app) (stream_in m app) 0 (length (n.net app).connections) stream_elsewhere in
      λ z. record { slots = slots z; streams = streams z }

-- 3. One deed

same_if : (b : Bool) (v : Meaning) (n : Nets) (m : Meaning) (a : ActorId) (action : ℕ) → fires_if n m a action b ≡ Some v → (b ≡ true) × (fires n m a action ≡ v)
same_if false v n m a action e = absurd (none_some v e)
same_if true v n m a action e = (refl, same_Some (fires n m a action) v e)

fired_there : (n : Nets) (m : Meaning) (a : ActorId) (action : ℕ) (app : AppId) → IsWired (n.net app) → a.actor < length (n.net a.app).actors → may_fire n m a action ≡ true → solo_from (n.net app) (runtime_of n m app) (firing_of app (Fired_action a action)) ≡ Some (runtime_of n (fires n m a action) app)
fired_there n m a action app wired there ready =
    elim (same_app-cases a.app app) [
      | inl s ↦
          let q = slice_get_some (n.net a.app).actors a.actor there in
          let f = solo_fires n m a action (subst (λ (d : AppId). IsWired (n.net d)) (sym s.1) wired) q.0 q.1 ready in
          let here : solo_from (n.net a.app) (runtime_of n m a.app) ((a.actor, action) ∷ []) ≡ Some (runtime_of n (fires n m a action) a.app) = ap (option_and_then (λ (next : Runtime). Some next)) f in
          ap (λ (t : Bool). solo_from (n.net app) (runtime_of n m app) (if t then (a.actor, action) ∷ [] else [])) s.0 ∙ subst (λ (d : AppId). solo_from (n.net d) (runtime_of n m d) ((a.actor, action) ∷ []) ≡ Some (runtime_of n (fires n m a action) d)) s.1 here
      | inr s ↦
          ap (λ (t : Bool). solo_from (n.net app) (runtime_of n m app) (if t then (a.actor, action) ∷ [] else [])) s.0 ∙ ap Some (sym (elsewhere_app n m a action app s.1))
    ]

after_streams : (n : Nets) (m v : Meaning) (i : ℕ) (own : Owners) (d : Deed) (app : AppId) → IsWired (n.net app) → AreListed n m.owner → owners_after m.owner i d ≡ Some own → streams_after n (record m { owner = own }) d ≡ Some v → solo_from (n.net app) (runtime_of n m app) (firing_of app d) ≡ Some (runtime_of n v app)
after_streams n m v i own Nothing app wired q o e = ap (λ (x : Meaning). Some (runtime_of n x app)) (same_Some (record m { owner = own }) v e)
after_streams n m v i own (Deployed other net) app wired q o e = ap (λ (x : Meaning). Some (runtime_of n x app)) (same_Some (record m { owner = own }) v e)
after_streams n m v i own (Used a) app wired q o e = ap (λ (x : Meaning). Some (runtime_of n x app)) (same_Some (record m { owner = own }) v e)
after_streams n m v i own (Fired_action a action) app wired q o e =
    let f = same_if (may_fire n m a action) v n (record m { owner = own }) a action e in
    let there = q.listed a (somewhere_at i (m.owner a) (allowed (is_at i (m.owner a)) m.owner own o).0) in
    fired_there n m a action app wired there f.0 ∙ ap (λ (x : Meaning). Some (runtime_of n x app)) f.1
after_streams n m v i own (Passed a b c token) app wired q o e = ap (λ (x : Meaning). Some (runtime_of n x app)) (same_Some (comes_in (record m { owner = own }) c (option_to_list token)) v e)
after_streams n m v i own (Received a c t) app wired q o e = ap (λ (x : Meaning). Some (runtime_of n x app)) (same_Some (comes_in (record m { owner = own }) c (t ∷ [])) v e)
after_streams n m v i own (Froze a to k) app wired q o e = ap (λ (x : Meaning). Some (runtime_of n x app)) (same_Some (record m { owner = own }) v e)
after_streams n m v i own (Accepted_here a k) app wired q o e = ap (λ (x : Meaning). Some (runtime_of n x app)) (same_Some (record m { owner = own }) v e)
after_streams n m v i own (Resumed a k) app wired q o e = ap (λ (x : Meaning). Some (runtime_of n x app)) (same_Some (record m { owner = own }) v e)
after_streams n m v i own (Removed a k) app wired q o e = ap (λ (x : Meaning). Some (runtime_of n x app)) (same_Some (record m { owner = own }) v e)
after_streams n m v i own (Destroyed_here other) app wired q o e = ap (λ (x : Meaning). Some (runtime_of n x app)) (same_Some (record m { owner = own }) v e)

-- what a deed means in an application's network, and that its actors stay listed
pub record GoesAlone (n : Nets) (m v : Meaning) (d : Deed) (app : AppId) : Type 0 where
  pub fired : solo_from (n.net app) (runtime_of n m app) (firing_of app d) ≡ Some (runtime_of n v app)
  pub listed : AreListed n v.owner

-- streams change and owners stay
pub owner_after : (n : Nets) (m v : Meaning) (d : Deed) → streams_after n m d ≡ Some v → v.owner ≡ m.owner
owner_after n m v Nothing e = ap (λ (x : Meaning). x.owner) (sym (same_Some m v e))
owner_after n m v (Deployed app net) e = ap (λ (x : Meaning). x.owner) (sym (same_Some m v e))
owner_after n m v (Used a) e = ap (λ (x : Meaning). x.owner) (sym (same_Some m v e))
owner_after n m v (Fired_action a action) e = ap (λ (x : Meaning). x.owner) (sym (same_if (may_fire n m a action) v n m a action e).1)
owner_after n m v (Passed a b c token) e = ap (λ (x : Meaning). x.owner) (sym (same_Some (comes_in m c (option_to_list token)) v e))
owner_after n m v (Received a c t) e = ap (λ (x : Meaning). x.owner) (sym (same_Some (comes_in m c (t ∷ [])) v e))
owner_after n m v (Froze a to k) e = ap (λ (x : Meaning). x.owner) (sym (same_Some m v e))
owner_after n m v (Accepted_here a k) e = ap (λ (x : Meaning). x.owner) (sym (same_Some m v e))
owner_after n m v (Resumed a k) e = ap (λ (x : Meaning). x.owner) (sym (same_Some m v e))
owner_after n m v (Removed a k) e = ap (λ (x : Meaning). x.owner) (sym (same_Some m v e))
owner_after n m v (Destroyed_here app) e = ap (λ (x : Meaning). x.owner) (sym (same_Some m v e))

means_alone : (n : Nets) (m v : Meaning) (i : ℕ) (d : Deed) (app : AppId) → IsWired (n.net app) → IsOfNets n d → AreListed n m.owner → (own : Option Owners) → owners_after m.owner i d ≡ own → with_owners n m d own ≡ Some v → GoesAlone n m v d app
means_alone n m v i d app wired carries q None o e = absurd (none_some v e)
means_alone n m v i d app wired carries q (Some own) o e = record {
  fired = after_streams n m v i own d app wired q o e;
  listed = subst (AreListed n) (sym (owner_after n (record m { owner = own }) v d e)) (listed_after n m.owner own i d carries q o);
}

pub deed_alone : (n : Nets) (m v : Meaning) (i : ℕ) (d : Deed) (app : AppId) → IsWired (n.net app) → IsOfNets n d → AreListed n m.owner → means n m i d ≡ Some v → GoesAlone n m v d app
deed_alone n m v i d app wired carries q e = means_alone n m v i d app wired carries q (owners_after m.owner i d) refl e

-- 4. Several deeds

append_on : (net : Net) (s : Runtime) (xs ys : List (ℕ × ℕ)) (o : Option Runtime) → ((next : Runtime) → solo_from net next xs ≡ Some s → solo_from net next (xs ++ ys) ≡ solo_from net s ys) → option_and_then (λ next. solo_from net next xs) o ≡ Some s → option_and_then (λ next. solo_from net next (xs ++ ys)) o ≡ solo_from net s ys
append_on net s xs ys None rest e = absurd (none_some s e)
append_on net s xs ys (Some next) rest e = rest next e

-- firings, and then more
pub solo_append : (net : Net) (r s : Runtime) (xs ys : List (ℕ × ℕ)) → solo_from net r xs ≡ Some s → solo_from net r (xs ++ ys) ≡ solo_from net s ys
solo_append net r s [] ys e = ap (λ (t : Runtime). solo_from net t ys) (same_Some r s e)
solo_append net r s (x ∷ xs) ys e = append_on net s xs ys (fire net r x.0 x.1) (λ next. solo_append net next s xs ys) e
