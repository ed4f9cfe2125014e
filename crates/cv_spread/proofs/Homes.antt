-- The actors of a run are in their places, and nothing was fired or moved yet.
use Rattle.std.proofs.Common.{◌≡◌, inl, inr, ℕ, ◌<◌, ◌≤◌, Bool, true, false, true≢false, if◌then◌else◌, length, slice_get, Option, Some, None, refl, sym, ap, ◌∙◌, subst, arith}
use Rattle.std.specs.Prelude.{unwrap_or}
use Rattle.std.specs.FinMap as fin
use Rattle.std.proofs.lemmas.List.FromFn.{length-map-range_with_len}
use Rattle.std.proofs.lemmas.Option.{none-some as none_some, slice_get_within}
use Rattle.cv_token.specs.declared.identifiers.AppId.{AppId}
use Rattle.cv_token.specs.declared.identifiers.ActorId.{ActorId}
use Rattle.cv_table.specs.Order.{same_app}
use Rattle.cv_table.proofs.Views.{same_app-cases}
use Rattle.cv_kinds.specs.declared.network.ActorSpec.{ActorSpec}
use Rattle.cv_kinds.specs.Net.{Net}
use Rattle.cv_protocol.specs.Actors.{LiveState}
use Rattle.cv_protocol.specs.Owners.{At, Between}
use Rattle.cv_protocol.specs.Travel.{new_actor, new_live}
use Rattle.cv_state.specs.Opening.{IsOpened}
use Rattle.cv_state.proofs.Openings.{opens_in_places}
use Rattle.cv_mesh.proofs.Listing.{at_place}
use Rattle.cv_alone.specs.Resting.{run_app}
use Rattle.cv_handover.specs.Meaning.{spec_of}
use Rattle.cv_handover.specs.Placed.{IsFresh, IsPlaced, owner_in}
use Rattle.cv_spread.specs.Placing.{home, nets, node_spec, openings, owners, home_node, places}
use Rattle.cv_spread.proofs.Staying.{Settled}

one_same : (a b : AppId) → same_app a b ≡ true → a ≡ b
one_same a b e =
    elim (same_app-cases a b) [
      | inl s ↦ s.1
      | inr s ↦ absurd (true≢false (sym e ∙ s.0))
    ]

pub only_if : (b : Bool) (x : Option ℕ) (i : ℕ) → (if b then x else None) ≡ Some i → (b ≡ true) × (x ≡ Some i)
only_if true x i is = (refl, is)
only_if false x i is = absurd (none_some i is)

pub owner_at : (x : Option ℕ) (i : ℕ) → owner_in x ≡ At i → x ≡ Some i
owner_at None i is = absurd (cc)
owner_at (Some j) i is = let e : j ≡ i = cc in ap Some e

not_between : (x : Option ℕ) (i j e : ℕ) → owner_in x ≡ Between i j e → ⊥
not_between None i j e is = cc
not_between (Some k) i j e is = cc

-- nobody is on the way
pub settled_home : (nodes : ℕ) (net : Net) → Settled (owners nodes net)
settled_home nodes net a i j e is = not_between (home nodes net a) i j e is

module _ (nodes : ℕ) (net : Net) where
  is_opened : (i : ℕ) → IsOpened (openings nodes net i) run_app net (places nodes net)
  is_opened i = opens_in_places (node_spec i) run_app net (places nodes net)

  -- an actor that lives somewhere is one of the run's application, and of the network
  record Lives (a : ActorId) (i : ℕ) : Type 0 where
    app : a.app ≡ run_app
    place : slice_get (places nodes net) a.actor ≡ Some i
    listed : a.actor < length net.actors

  lives : (a : ActorId) (i : ℕ) → home nodes net a ≡ Some i → Lives a i
  lives a i is =
      let h = only_if (same_app a.app run_app) (slice_get (places nodes net) a.actor) i is in
      let within = slice_get_within (places nodes net) a.actor i h.1 in
      record {
        app = one_same a.app run_app h.0;
        place = h.1;
        listed = omega (arith, within, length-map-range_with_len (home_node nodes) 0 (length net.actors));
      }

  lives_there : (nobody : ActorSpec) (a : ActorId) (i : ℕ) → home nodes net a ≡ Some i → (l : LiveState) × (fin.get (openings nodes net i).live a ≡ Some l) × IsFresh (nets net nobody) a l
  lives_there nobody a i is =
      let h = lives a i is in
      let at = at_place net.actors a.actor h.listed in
      let own : record { app = run_app; actor = a.actor } ≡ a = λ z. record { app = sym h.app z; actor = a.actor } in
      let spec : spec_of (nets net nobody) a ≡ at.0 = ap (λ (o : Option ActorSpec). unwrap_or o nobody) at.1 in (
        new_live run_app net.connections a.actor at.0 0,
        subst (λ (b : ActorId). fin.get (openings nodes net i).live b ≡ Some (new_live run_app net.connections a.actor at.0 0)) own ((is_opened i).there a.actor at.0 h.place at.1),
        record { actor = λ z. new_actor (sym h.app z) net.connections a.actor (sym spec z); attempt = refl },
      )

  lives_only : (a : ActorId) (i : ℕ) (l : LiveState) → fin.get (openings nodes net i).live a ≡ Some l → home nodes net a ≡ Some i
  lives_only a i l is =
      let k = (is_opened i).nobody_else a l is in
      ap (λ (app : AppId). if same_app app run_app then slice_get (places nodes net) a.actor else None) k.0 ∙ k.1

  counted : (a : ActorId) (i : ℕ) → home nodes net a ≡ Some i → a.app.seq ≤ (openings nodes net a.app.node).known.deployed
  counted a i is =
      let one : (openings nodes net 1).known.deployed ≡ 1 = (is_opened 1).counted refl in
      subst (λ (app : AppId). app.seq ≤ (openings nodes net app.node).known.deployed) (sym (lives a i is).app) (omega (arith, one))

  pub is_placed : (nobody : ActorSpec) → IsPlaced (nets net nobody) (home nodes net) (openings nodes net)
  is_placed nobody = record {
    number = λ i. refl;
    there = lives_there nobody;
    nobody_else = lives_only;
    none_frozen = λ a i. (is_opened i).none_frozen a;
    none_judged = λ a i. (is_opened i).none_judged a;
    listed = λ a i is. (lives a i is).listed;
    counted = counted;
  }
