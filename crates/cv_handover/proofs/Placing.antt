-- Nodes that open with actors in their places agree with the meaning in which each is there.
use Rattle.std.proofs.Common.{◌≡◌, ℕ, ◌<◌, [], length, Option, Some, None, refl, sym, ap, subst, ◌∙◌, arith}
use Rattle.std.specs.Prelude.{option_map}
use Rattle.std.proofs.lemmas.Option.{none-some as none_some}
use Rattle.std.specs.FinMap as map
use Rattle.cv_token.specs.declared.identifiers.ActorId.{ActorId}
use Rattle.cv_solo.specs.OneRuntime.{Runtime}
use Rattle.cv_protocol.specs.Actors.{LiveState}
use Rattle.cv_protocol.specs.NodeState.{NodeState}
use Rattle.cv_protocol.specs.Owners.{Nowhere, At, Between}
use Rattle.cv_handover.specs.Meaning.{Nets, fresh}
use Rattle.cv_handover.specs.Agree.{Living, living, copy_of, lives, copies, records, Owned, Kept, Agree}
use Rattle.cv_handover.specs.Runs.{AllHolds, OwnersHold, StreamsInOrder}
use Rattle.cv_handover.specs.Alone.{Alone, AreListed, EachFromStart}
use Rattle.cv_handover.specs.Placed.{Places, IsPlaced, owner_in, placed_meaning, FromPlaced}
use Rattle.cv_handover.proofs.Alone.{each_agreed, runtime_first}
use Rattle.cv_handover.proofs.Openings.{streams_fresh}
use Rattle.cv_handover.proofs.Records.{no_moves, never_tried, none_there, nobody, holds_agreed, owners_agreed, streams_agreed}
use Rattle.cv_handover.proofs.Standing.{none_of}

owner_at : (x : Option ℕ) (i : ℕ) → owner_in x ≡ At i → x ≡ Some i
owner_at None i is = absurd (cc)
owner_at (Some j) i is = let e : j ≡ i = cc in ap Some e

owner_between : (x : Option ℕ) (i j e : ℕ) → owner_in x ≡ Between i j e → ⊥
owner_between None i j e is = cc
owner_between (Some k) i j e is = cc

some_living : (x : Option LiveState) (l : Living) → option_map living x ≡ Some l → (y : LiveState) × (x ≡ Some y)
some_living None l is = absurd (none_some l is)
some_living (Some y) l is = (y, refl)

module _ (n : Nets) (place : Places) (openings : ℕ → NodeState) (p : IsPlaced n place openings) where
  lives_there : (a : ActorId) (i : ℕ) → owner_in (place a) ≡ At i → lives openings i a ≡ Some (record { actor = fresh n a; attempt = 0 })
  lives_there a i is =
      let l = p.there a i (owner_at (place a) i is) in
      ap (option_map living) l.1 ∙ (λ z. Some (record { actor = l.2.actor z; attempt = l.2.attempt z }))

  lives_only : (a : ActorId) (i : ℕ) (l : Living) → lives openings i a ≡ Some l → owner_in (place a) ≡ At i
  lives_only a i l is =
      let y = some_living (map.get (openings i).live a) l is in
      ap owner_in (p.nobody_else a i y.0 y.1)

  owned_placed : Owned (lives openings) (λ a. owner_in (place a)) (no_moves n)
  owned_placed = record {
    live_at = lives_there;
    live_only = lives_only;
    between = λ a i j e is. absurd (owner_between (place a) i j e is);
    settled = λ a i e is tried. absurd (never_tried n a e tried);
    absent = λ a e is tried. absurd (never_tried n a e tried);
    past_judged = λ a e low high. absurd (omega arith);
  }

  kept_placed : Kept (copies openings) (records openings) (λ a. owner_in (place a)) (no_moves n)
  kept_placed = record {
    frozen_ok = λ i a f is. absurd (nobody copy_of (map.get (openings i).moves.frozen a) f (p.none_frozen a i) is);
    judged_ok = λ i a j v is. absurd (none_some j (sym (p.none_judged a i) ∙ is));
    judged_high = λ a e tried. absurd (never_tried n a e tried);
  }

  -- who is of an application to come is not placed
  not_placed : (a : ActorId) → (openings a.app.node).known.deployed < a.app.seq → place a ≡ None
  not_placed a below = none_of (place a) (λ i is. let low = p.counted a i is in omega (arith, low))

  pub agrees_placed : Agree n openings [] (placed_meaning n place) (no_moves n)
  agrees_placed = record {
    numbered = record {
      number = p.number;
      unheard = λ a below. record { owner = ap owner_in (not_placed a below); attempt = refl; copy = refl };
    };
    owned = owned_placed;
    kept = kept_placed;
    streams = streams_fresh n (placed_meaning n place) (λ a. refl) (λ c. refl) (λ c. refl) (λ c. refl);
    sent = λ f there. absurd (none_there f there);
  }

  listed_in : (a : ActorId) (x : Option ℕ) → place a ≡ x → ((owner_in x ≡ Nowhere) → ⊥) → a.actor < length (n.net a.app).actors
  listed_in a None is somewhere = absurd (somewhere refl)
  listed_in a (Some i) is somewhere = p.listed a i is

  all_listed : AreListed n (placed_meaning n place).owner
  all_listed = record { listed = λ a somewhere. listed_in a (place a) refl somewhere }

pub holds_placed : FromPlaced AllHolds
holds_placed n place openings journals m p run nets = holds_agreed n openings (placed_meaning n place) (no_moves n) journals m (agrees_placed n place openings p) run nets

pub owners_placed : FromPlaced OwnersHold
owners_placed n place openings journals m p run nets = owners_agreed n openings (placed_meaning n place) (no_moves n) journals m (agrees_placed n place openings p) run nets

pub streams_placed : FromPlaced StreamsInOrder
streams_placed n place openings journals m p run nets = streams_agreed n openings (placed_meaning n place) (no_moves n) journals m (agrees_placed n place openings p) run nets

pub each_placed : FromPlaced EachFromStart
each_placed n place openings journals m p run nets begins rest app stands wired =
    let a = each_agreed n openings (placed_meaning n place) (no_moves n) journals m (agrees_placed n place openings p) run nets begins rest app stands (all_listed n place openings p) wired in
    subst (λ (r : Runtime). Alone n openings (placed_meaning n place) r begins app) (runtime_first n app) a
