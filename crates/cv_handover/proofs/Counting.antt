-- What a row leaves of the node's number, of how many it deployed and of its records, and that its deed fires and deploys what the
-- event says.
use Rattle.std.proofs.Common.{◌≡◌, ◌⊎◌, inl, inr, ℕ, ◌+◌, ◌<◌, ◌≤◌, Bool, true, false, cond, ◌==◌, ◌&&◌, List, [], ◌∷◌, length, Option, Some, None, refl, sym, ap, subst, ◌∙◌, arith, IfSome, length-append}
use Rattle.std.specs.Prelude.{nat_lt, nat_le, option_and_then}
use Rattle.std.proofs.lemmas.Option.{same_Some, none-some as none_some, some_pair_parts}
use Rattle.std.proofs.lemmas.Bool.Decides.{nat_tests}
use Rattle.std.specs.FinMap as map
use Rattle.cv_token.specs.declared.token.Token.{Token}
use Rattle.cv_token.specs.declared.identifiers.AppId.{AppId}
use Rattle.cv_token.specs.declared.identifiers.ActorId.{ActorId}
use Rattle.cv_token.specs.declared.identifiers.ConnId.{ConnId}
use Rattle.cv_table.specs.Order.{actor_cmp}
use Rattle.cv_table.proofs.Views.{get_inserted, same_actor-cases}
use Rattle.cv_kinds.specs.Net.{Net}
use Rattle.cv_rules.specs.declared.attrs.Attrs.{Attrs}
use Rattle.cv_queue.specs.Ports.{received, token_for, answer_to}
use Rattle.cv_queue.specs.declared.in_port.Offered.{Offered}
use Rattle.cv_queue.specs.declared.in_port.Offered.TheVariants as offered
use Rattle.cv_endpoint.specs.Ends.{next_number, to_move}
use Rattle.cv_protocol.specs.declared.moving.Judged.{Judged}
use Rattle.cv_protocol.specs.declared.event.Entry.{Entry}
use Rattle.cv_protocol.specs.declared.event.Event.TheVariants as event
use Rattle.cv_protocol.specs.declared.frame.Body.{Body}
use Rattle.cv_protocol.specs.declared.frame.Body.TheVariants as body
use Rattle.cv_protocol.specs.declared.frame.Frame.{Frame}
use Rattle.cv_protocol.specs.declared.frame.Verdict.{Verdict}
use Rattle.cv_protocol.specs.declared.frame.Verdict.TheVariants as verdict
use Rattle.cv_protocol.specs.declared.moving.Application.{Application}
use Rattle.cv_protocol.specs.declared.moving.Application.TheVariants as known
use Rattle.cv_protocol.specs.declared.moving.Frozen.{Frozen}
use Rattle.cv_protocol.specs.declared.moving.Location.{Location}
use Rattle.cv_protocol.specs.declared.state.Hint.{Hint}
use Rattle.cv_protocol.specs.declared.state.Inlet.{Inlet}
use Rattle.cv_protocol.specs.declared.event.Event.{Event}
use Rattle.cv_protocol.specs.Actors.{LiveState, StateView}
use Rattle.cv_protocol.specs.Poll.{limit, Answer, Fired, Held, Waiting, poll}
use Rattle.cv_protocol.specs.NodeState.{NodeState, Moves, judged_attempt, noted, released_if, release_of, released, is_other_known, last, is_later, is_gone, with_hint, raise}
use Rattle.cv_protocol.specs.Rows.{Did, Deed, Nothing, Deployed, Used, Fired_action, Passed, Received, Froze, Accepted_here, Resumed, Removed, Destroyed_here, Outlet, Seat, Spot, outlet, seat_of, spot_of, is_node, meet, tick, most_applications, deploy, inlet_at, peek_inlet, peek_at, peek_by, peek, fire_at, fire_by, fire, pass_token, pass_known, pass_into, pass_to, pass, send_token, send_number, send_away, send_to, send, rewind, freeze_to, freeze, resend, withdraw, destroy}
use Rattle.cv_protocol.specs.Deliveries.{accepted_state, offer_deed, located_away, token_hinted, token_missed, token_into, token_comes, ack_at, ack_comes, nack_at, nack_comes, old_hinted, old_unjudged, old_judged, verdict_of, old_attempt, with_verdict, all_raised, arrived, judged_as, transfer_judged, transfer_comes, cancel_comes, is_accepted, resumed, verdict_by, verdict_for, verdict_comes}
use Rattle.cv_protocol.specs.NodeRow.{row, stamp_of, attempted, comes, deliver, lose, is_bounded, stamped_if, stamped}
use Rattle.cv_protocol.specs.Journals.{did_if, did_at, next_of, replay}
use Rattle.cv_handover.specs.Meaning.{Nets}
use Rattle.cv_handover.specs.Runs.{CarriesNet, deployed_net, deployed_nets}
use Rattle.cv_handover.specs.Rising.{judged_if, judgement_by, judgement_at}
use Rattle.cv_handover.specs.Runtimes.{firing_of, firing_at, IsOfNets}

-- the deed is neither a firing nor a deployment
abbrev is_quiet : Deed → Bool
is_quiet (Fired_action a action) = false
is_quiet (Deployed app net) = false
is_quiet Nothing = true
is_quiet (Used a) = true
is_quiet (Passed a b c token) = true
is_quiet (Received a c t) = true
is_quiet (Froze a to e) = true
is_quiet (Accepted_here a e) = true
is_quiet (Resumed a e) = true
is_quiet (Removed a e) = true
is_quiet (Destroyed_here app) = true

-- the state after so many more deployments; no record of an actor falls
pub record Counts (s : NodeState) (more : ℕ) (t : NodeState) : Type 0 where
  pub spec : t.spec ≡ s.spec
  pub deployed : t.known.deployed ≡ s.known.deployed + more
  pub rises : (b : ActorId) → judged_attempt (map.get s.moves.judged b) ≤ judged_attempt (map.get t.moves.judged b)

-- a record that stood there before, or has no verdict, or is the one that is made
abbrev pub Stood : map.FinMap actor_cmp Judged → Option (ActorId × Judged) → ActorId → Judged → Type 0
Stood records made a j = (map.get records a ≡ Some j) ⊎ ((j.verdict ≡ None) ⊎ (made ≡ Some (a, j)))

-- of the records only releases are new, which have no verdict, and the one that is made
pub record Leaves (s : NodeState) (made : Option (ActorId × Judged)) (t : NodeState) : Type 0 where
  pub counts : Counts s 0 t
  pub stays : (b : ActorId) (j : Judged) → map.get t.moves.judged b ≡ Some j → Stood s.moves.judged made b j

-- it deployed nothing, its deed is no firing, and this record is made
record Makes (s : NodeState) (made : Option (ActorId × Judged)) (d : Did) : Type 0 where
  pub leaves : Leaves s made d.next
  pub quiet : is_quiet d.deed ≡ true

abbrev Still : NodeState → Did → Type 0
Still s d = Makes s None d

-- it is a firing
record Fires (s : NodeState) (a : ActorId) (action : ℕ) (d : Did) : Type 0 where
  pub leaves : Leaves s None d.next
  pub deed : d.deed ≡ Fired_action a action

same_records : (s t : NodeState) → t.spec ≡ s.spec → t.known.deployed ≡ s.known.deployed + 0 → t.moves.judged ≡ s.moves.judged → Leaves s None t
same_records s t spec deployed same = record {
  counts = record { spec = spec; deployed = deployed; rises = λ b. let k = ap (λ (m : map.FinMap actor_cmp Judged). judged_attempt (map.get m b)) same in omega (arith, k) };
  stays = λ b j is. inl (ap (λ (m : map.FinMap actor_cmp Judged). map.get m b) (sym same) ∙ is);
}

leaves_none : (s : NodeState) → Leaves s None s
leaves_none s = same_records s s refl (omega arith) refl

-- a change, and then releases
leaves_both : (s t u : NodeState) (made : Option (ActorId × Judged)) → Leaves s made t → Leaves t None u → Leaves s made u
leaves_both s t u made p q = record {
  counts = record { spec = q.counts.spec ∙ p.counts.spec; deployed = omega (arith, p.counts.deployed, q.counts.deployed); rises = λ b. omega (arith, p.counts.rises b, q.counts.rises b) };
  stays =
      λ b j is.
      elim (q.stays b j is) [
        | inl old ↦ p.stays b j old
        | inr new ↦
            elim new [
              | inl none ↦ inr (inl none)
              | inr made_there ↦ absurd (none_some (b, j) made_there)
            ]
      ];
}

-- a record of an attempt that is not below the one kept
insert_rises : (records : map.FinMap actor_cmp Judged) (a : ActorId) (j : Judged) → judged_attempt (map.get records a) ≤ j.attempt → (b : ActorId) → judged_attempt (map.get records b) ≤ judged_attempt (map.get (map.insert records a j) b)
insert_rises records a j high b =
    let e = get_inserted records a j b in
    elim (same_actor-cases b a) [
      | inl s ↦
          let k : judged_attempt (map.get (map.insert records a j) b) ≡ j.attempt = ap judged_attempt (e ∙ ap (λ (t : Bool). cond t (Some j) (map.get records b)) s.0) in
          let old : judged_attempt (map.get records b) ≡ judged_attempt (map.get records a) = ap (λ (c : ActorId). judged_attempt (map.get records c)) s.1 in
          omega (arith, k, old, high)
      | inr s ↦
          let k : judged_attempt (map.get (map.insert records a j) b) ≡ judged_attempt (map.get records b) = ap judged_attempt (e ∙ ap (λ (t : Bool). cond t (Some j) (map.get records b)) s.0) in
          omega (arith, k)
    ]

noted_rises : (records : map.FinMap actor_cmp Judged) (a : ActorId) (e : ℕ) (t : Bool) → nat_lt (judged_attempt (map.get records a)) e ≡ t → (b : ActorId) → judged_attempt (map.get records b) ≤ judged_attempt (map.get (noted records a e t) b)
noted_rises records a e false is b = omega arith
noted_rises records a e true is b = let low : judged_attempt (map.get records a) < e = grind (arith, nat_tests, is) in insert_rises records a (record { attempt = e; verdict = None }) (omega (arith, low)) b

released_rises : (m : Moves) (a : ActorId) (e : ℕ) (t : Bool) (b : ActorId) → judged_attempt (map.get m.judged b) ≤ judged_attempt (map.get (released_if m a e t).judged b)
released_rises m a e false b = omega arith
released_rises m a e true b = noted_rises m.judged a e (nat_lt (judged_attempt (map.get m.judged a)) e) refl b

copy_rises : (m : Moves) (a : ActorId) (upto : ℕ) (f : Option Frozen) (b : ActorId) → judged_attempt (map.get m.judged b) ≤ judged_attempt (map.get (release_of m a upto f).judged b)
copy_rises m a upto None b = omega arith
copy_rises m a upto (Some f) b = released_rises m a f.attempt (nat_le f.attempt upto) b

-- a release raises a record, or leaves it
release_rises : (m : Moves) (a : ActorId) (upto : ℕ) (b : ActorId) → judged_attempt (map.get m.judged b) ≤ judged_attempt (map.get (released m a upto).judged b)
release_rises m a upto b = copy_rises m a upto (map.get m.frozen a) b

insert_stays : (records : map.FinMap actor_cmp Judged) (a : ActorId) (j : Judged) (b : ActorId) (k : Judged) → map.get (map.insert records a j) b ≡ Some k → Stood records (Some (a, j)) b k
insert_stays records a j b k is =
    let e = get_inserted records a j b in
    elim (same_actor-cases b a) [
      | inl s ↦
          let new : j ≡ k = same_Some j k (sym (e ∙ ap (λ (t : Bool). cond t (Some j) (map.get records b)) s.0) ∙ is) in
          let same : a ≡ b = sym s.1 in
          inr (inr (λ z. Some (same z, new z)))
      | inr s ↦ inl (sym (e ∙ ap (λ (t : Bool). cond t (Some j) (map.get records b)) s.0) ∙ is)
    ]

-- a new record without a verdict
noted_stays : (records : map.FinMap actor_cmp Judged) (a : ActorId) (e : ℕ) (t : Bool) (b : ActorId) (k : Judged) → map.get (noted records a e t) b ≡ Some k → Stood records None b k
noted_stays records a e false b k is = inl is
noted_stays records a e true b k is =
    elim (insert_stays records a (record { attempt = e; verdict = None }) b k is) [
      | inl old ↦ inl old
      | inr new ↦
          elim new [
            | inl none ↦ inr (inl none)
            | inr here ↦ inr (inl (ap (λ (j : Judged). j.verdict) (sym (some_pair_parts a b (record { attempt = e; verdict = None }) k here).1)))
          ]
    ]

released_stays : (m : Moves) (a : ActorId) (e : ℕ) (t : Bool) (b : ActorId) (k : Judged) → map.get (released_if m a e t).judged b ≡ Some k → Stood m.judged None b k
released_stays m a e false b k is = inl is
released_stays m a e true b k is = noted_stays m.judged a e (nat_lt (judged_attempt (map.get m.judged a)) e) b k is

copy_stays : (m : Moves) (a : ActorId) (upto : ℕ) (f : Option Frozen) (b : ActorId) (k : Judged) → map.get (release_of m a upto f).judged b ≡ Some k → Stood m.judged None b k
copy_stays m a upto None b k is = inl is
copy_stays m a upto (Some f) b k is = released_stays m a f.attempt (nat_le f.attempt upto) b k is

release_stays : (m : Moves) (a : ActorId) (upto : ℕ) (b : ActorId) (k : Judged) → map.get (released m a upto).judged b ≡ Some k → Stood m.judged None b k
release_stays m a upto b k is = copy_stays m a upto (map.get m.frozen a) b k is

-- an attempt above all that is kept of the actor is above its record
above_record : (s : NodeState) (a : ActorId) (e : ℕ) → nat_le e (last s a) ≡ false → judged_attempt (map.get s.moves.judged a) ≤ e
above_record s a e new = let h : last s a < e = grind (arith, nat_tests, new) in omega (arith, h)

-- 1. Rows that use a live actor

module _ (s : NodeState) where
  none : s.known.deployed ≡ s.known.deployed + 0
  none = omega arith

  peek_inlet_still : (a : ActorId) (l : LiveState) (port count : ℕ) (i : Option Inlet) → IfSome (peek_inlet s a l port count i) (Still s)
  peek_inlet_still a l port count None = tt
  peek_inlet_still a l port count (Some i) = record { leaves = same_records s _ refl none refl; quiet = refl }

  peek_at_still : (a : ActorId) (l : LiveState) (port count : ℕ) (b : Bool) → IfSome (peek_at s a l port count b) (Still s)
  peek_at_still a l port count false = tt
  peek_at_still a l port count true = peek_inlet_still a l port count (inlet_at l port)

  peek_by_still : (a : ActorId) (l : LiveState) (port : ℕ) (x : Answer) → IfSome (peek_by s a l port x) (Still s)
  peek_by_still a l port (Fired action) = tt
  peek_by_still a l port (Held held count) = peek_at_still a l held count (held == port)
  peek_by_still a l port (Waiting lacks) = tt

  peek_still : (a : ActorId) (port : ℕ) (l : Option LiveState) → IfSome (peek s a port l) (Still s)
  peek_still a port None = tt
  peek_still a port (Some l) = peek_by_still a l port (poll l s.now)

  fire_at_fires : (a : ActorId) (l : LiveState) (action : ℕ) (b : Bool) → IfSome (fire_at s a l action b) (Fires s a action)
  fire_at_fires a l action false = tt
  fire_at_fires a l action true = record { leaves = same_records s _ refl none refl; deed = refl }

  fire_by_fires : (a : ActorId) (l : LiveState) (action : ℕ) (x : Answer) → IfSome (fire_by s a l action x) (Fires s a action)
  fire_by_fires a l action (Fired first) = fire_at_fires a l action (first == action)
  fire_by_fires a l action (Held port count) = tt
  fire_by_fires a l action (Waiting lacks) = tt

  fire_fires : (a : ActorId) (action : ℕ) (l : Option LiveState) → IfSome (fire s a action l) (Fires s a action)
  fire_fires a action None = tt
  fire_fires a action (Some l) = fire_by_fires a l action (poll l s.now)

  pass_token_still : (x : Outlet) (c : ActorId) (l : LiveState) (y : Seat) (t : Option Token) → IfSome (pass_token s x c l y t) (Still s)
  pass_token_still x c l y None = tt
  pass_token_still x c l y (Some t) = record { leaves = same_records s _ refl none refl; quiet = refl }

  pass_known_still : (x : Outlet) (c : ActorId) (l : LiveState) (y : Seat) (b : Bool) → IfSome (pass_known s x c l y b) (Still s)
  pass_known_still x c l y false = tt
  pass_known_still x c l y true = pass_token_still x c l y (to_move x.spot.port x.spot.number y.inlet.port)

  pass_into_still : (x : Outlet) (c : ActorId) (l : LiveState) (y : Option Seat) → IfSome (pass_into s x c l y) (Still s)
  pass_into_still x c l None = tt
  pass_into_still x c l (Some y) = pass_known_still x c l y (nat_le x.spot.reader.acked (received y.inlet.port))

  pass_to_still : (x : Outlet) (c : ActorId) (l : Option LiveState) → IfSome (pass_to s x c l) (Still s)
  pass_to_still x c None = tt
  pass_to_still x c (Some l) = pass_into_still x c l (seat_of x.spot.reader.conn 0 l.actor.ins)

  pass_still : (x : Option Outlet) → IfSome (pass s x) (Still s)
  pass_still None = tt
  pass_still (Some x) = pass_to_still x x.spot.reader.consumer (map.get s.live x.spot.reader.consumer)

  module _ (stamp : ℕ) where
    send_token_still : (x : Outlet) (node n : ℕ) (t : Option Token) → IfSome (send_token s stamp x node n t) (Still s)
    send_token_still x node n None = tt
    send_token_still x node n (Some t) = record { leaves = same_records s _ refl none refl; quiet = refl }

    send_number_still : (x : Outlet) (node : ℕ) (n : Option ℕ) → IfSome (send_number s stamp x node n) (Still s)
    send_number_still x node None = tt
    send_number_still x node (Some n) = send_token_still x node n (token_for x.spot.port x.spot.number n)

    send_away_still : (x : Outlet) (node : ℕ) (b : Bool) → IfSome (send_away s stamp x node b) (Still s)
    send_away_still x node true = tt
    send_away_still x node false = send_number_still x node (next_number x.spot.port x.spot.number s.spec.window)

    send_to_still : (x : Outlet) (h : Option Location) → IfSome (send_to s stamp x h) (Still s)
    send_to_still x None = tt
    send_to_still x (Some h) = send_away_still x h.node (h.node == s.spec.no)

    send_still : (x : Option Outlet) → IfSome (send s stamp x) (Still s)
    send_still None = tt
    send_still (Some x) = send_to_still x (map.get s.hints x.spot.reader.consumer)

  rewind_still : (x : Option Outlet) → IfSome (rewind s x) (Still s)
  rewind_still None = tt
  rewind_still (Some x) = record { leaves = same_records s _ refl none refl; quiet = refl }

  -- 2. Rows of moves

  freeze_to_still : (stamp : ℕ) (a : ActorId) (l : LiveState) (to : ℕ) (b : Bool) → IfSome (freeze_to s stamp a l to b) (Still s)
  freeze_to_still stamp a l to false = tt
  freeze_to_still stamp a l to true = record { leaves = same_records s _ refl none refl; quiet = refl }

  freeze_still : (stamp : ℕ) (a : ActorId) (to : ℕ) (l : Option LiveState) → IfSome (freeze s stamp a to l) (Still s)
  freeze_still stamp a to None = tt
  freeze_still stamp a to (Some l) = freeze_to_still stamp a l to (is_other_known s to)

  resend_still : (stamp : ℕ) (a : ActorId) (f : Option Frozen) → IfSome (resend s stamp a f) (Still s)
  resend_still stamp a None = tt
  resend_still stamp a (Some f) = record { leaves = leaves_none s; quiet = refl }

  withdraw_still : (stamp : ℕ) (a : ActorId) (f : Option Frozen) → IfSome (withdraw s stamp a f) (Still s)
  withdraw_still stamp a None = tt
  withdraw_still stamp a (Some f) = record { leaves = leaves_none s; quiet = refl }

  hint_still : (a : ActorId) (e k : ℕ) (b : Bool) → Leaves s None (with_hint s a e k b)
  hint_still a e k false = leaves_none s
  hint_still a e k true = same_records s _ refl none refl

  raise_still : (a : ActorId) (e k : ℕ) → Leaves s None (raise s a e k)
  raise_still a e k =
      let t : NodeState = with_hint s a e k (is_later e (map.get s.hints a)) in
      let q = hint_still a e k (is_later e (map.get s.hints a)) in
      leaves_both s t (raise s a e k) None q (record {
        counts = record { spec = refl; deployed = omega arith; rises = release_rises t.moves a e };
        stays = λ b j is. release_stays t.moves a e b j is;
      })

  destroy_still : (stamp : ℕ) (app : AppId) (x : Option Application) → IfSome (destroy s stamp app x) (Still s)
  destroy_still stamp app None = tt
  destroy_still stamp app (Some known.Destroyed) = tt
  destroy_still stamp app (Some (known.Known name net)) = record { leaves = same_records s _ refl none refl; quiet = refl }

all_raised_still : (hints : List Hint) (s : NodeState) → Leaves s None (all_raised hints s)
all_raised_still [] s = leaves_none s
all_raised_still (h ∷ hs) s = leaves_both s (raise s h.actor h.attempt h.node) (all_raised hs (raise s h.actor h.attempt h.node)) None (raise_still s h.actor h.attempt h.node) (all_raised_still hs (raise s h.actor h.attempt h.node))

-- 3. Frames that come

module _ (s : NodeState) (stamp sender : ℕ) where
  offer_quiet : (a : ActorId) (c : ConnId) (t : Token) (o : Offered) → is_quiet (offer_deed a c t o) ≡ true
  offer_quiet a c t offered.Taken = refl
  offer_quiet a c t offered.Old = refl
  offer_quiet a c t offered.Gap = refl
  offer_quiet a c t offered.Full = refl

  away_still : (a : ActorId) (h : Location) (b : Bool) → Still s (located_away s stamp sender a h b)
  away_still a h true = record { leaves = leaves_none s; quiet = refl }
  away_still a h false = record { leaves = leaves_none s; quiet = refl }

  hinted_still : (a : ActorId) (h : Option Location) → Still s (token_hinted s stamp sender a h)
  hinted_still a None = record { leaves = leaves_none s; quiet = refl }
  hinted_still a (Some h) = away_still a h (h.node == s.spec.no)

  missed_still : (a : ActorId) (f : Option Frozen) → Still s (token_missed s stamp sender a f)
  missed_still a (Some f) = record { leaves = leaves_none s; quiet = refl }
  missed_still a None = hinted_still a (map.get s.hints a)

  into_still : (a : ActorId) (l : LiveState) (n : ℕ) (t : Token) (y : Option Seat) → Still s (token_into s stamp sender a l n t y)
  into_still a l n t None = missed_still a (map.get s.moves.frozen a)
  into_still a l n t (Some y) = record { leaves = same_records s _ refl (none s) refl; quiet = offer_quiet a y.inlet.conn t (answer_to y.inlet.port n) }

  token_still : (conn : ConnId) (a : ActorId) (n : ℕ) (t : Token) (l : Option LiveState) → Still s (token_comes s stamp sender conn a n t l)
  token_still conn a n t None = missed_still a (map.get s.moves.frozen a)
  token_still conn a n t (Some l) = into_still a l n t (seat_of conn 0 l.actor.ins)

  ack_at_still : (a : ActorId) (l : LiveState) (upto : ℕ) (z : Option Spot) → Still s (ack_at s a l upto z)
  ack_at_still a l upto None = record { leaves = leaves_none s; quiet = refl }
  ack_at_still a l upto (Some z) = record { leaves = same_records s _ refl (none s) refl; quiet = refl }

  ack_still : (conn : ConnId) (a : ActorId) (upto : ℕ) (l : Option LiveState) → Still s (ack_comes s conn a upto l)
  ack_still conn a upto None = record { leaves = leaves_none s; quiet = refl }
  ack_still conn a upto (Some l) = ack_at_still a l upto (spot_of conn 0 l.actor.outs)

  nack_at_still : (a : ActorId) (l : LiveState) (upto : ℕ) (z : Option Spot) → Still s (nack_at s a l upto z)
  nack_at_still a l upto None = record { leaves = leaves_none s; quiet = refl }
  nack_at_still a l upto (Some z) = record { leaves = same_records s _ refl (none s) refl; quiet = refl }

  nack_still : (conn : ConnId) (a : ActorId) (upto : ℕ) (l : Option LiveState) → Still s (nack_comes s conn a upto l)
  nack_still conn a upto None = record { leaves = leaves_none s; quiet = refl }
  nack_still conn a upto (Some l) = nack_at_still a l upto (spot_of conn 0 l.actor.outs)

  old_away_still : (a : ActorId) (h : Location) (b : Bool) → Still s (old_hinted s stamp sender a h b)
  old_away_still a h true = record { leaves = leaves_none s; quiet = refl }
  old_away_still a h false = record { leaves = leaves_none s; quiet = refl }

  old_elsewhere_still : (a : ActorId) (e : ℕ) (h : Option Location) → Still s (old_unjudged s stamp sender a e h)
  old_elsewhere_still a e None = record { leaves = leaves_none s; quiet = refl }
  old_elsewhere_still a e (Some h) = old_away_still a h (nat_le e h.attempt)

  old_judged_still : (a : ActorId) (e : ℕ) (v : Option Verdict) → Still s (old_judged s stamp sender a e v)
  old_judged_still a e None = old_elsewhere_still a e (map.get s.hints a)
  old_judged_still a e (Some v) = record { leaves = leaves_none s; quiet = refl }

  old_still : (a : ActorId) (e : ℕ) → Still s (old_attempt s stamp sender a e)
  old_still a e = old_judged_still a e (verdict_of e (map.get s.moves.judged a))

  module _ (a : ActorId) (e : ℕ) (new : nat_le e (last s a) ≡ false) where
    -- a record of the attempt is made
    verdict_leaves : (v : Verdict) → Leaves s (Some (a, record { attempt = e; verdict = Some v })) (with_verdict s a e v)
    verdict_leaves v = record {
      counts = record { spec = refl; deployed = none s; rises = insert_rises s.moves.judged a (record { attempt = e; verdict = Some v }) (above_record s a e new) };
      stays = insert_stays s.moves.judged a (record { attempt = e; verdict = Some v });
    }

    -- and the hints are raised behind it
    pub hints_leave : (state : StateView) → Leaves (arrived (with_verdict s a e verdict.Accepted) a e state) None (accepted_state s a e state)
    hints_leave state =
        let t : NodeState = arrived (with_verdict s a e verdict.Accepted) a e state in
        leaves_both t (raise t a e s.spec.no) (all_raised state.hints (raise t a e s.spec.no)) None (raise_still t a e s.spec.no) (all_raised_still state.hints (raise t a e s.spec.no))

    accepted_still : (state : StateView) → Leaves s (Some (a, record { attempt = e; verdict = Some verdict.Accepted })) (accepted_state s a e state)
    accepted_still state =
        let q = verdict_leaves verdict.Accepted in
        leaves_both s (arrived (with_verdict s a e verdict.Accepted) a e state) (accepted_state s a e state) (Some (a, record { attempt = e; verdict = Some verdict.Accepted })) (record { counts = record { spec = q.counts.spec; deployed = q.counts.deployed; rises = q.counts.rises }; stays = q.stays }) (hints_leave state)

    judged_still : (state : StateView) (v : Verdict) → Makes s (Some (a, record { attempt = e; verdict = Some v })) (transfer_judged s stamp sender a e state v)
    judged_still state verdict.Accepted = record { leaves = accepted_still state; quiet = refl }
    judged_still state verdict.Unfit = record { leaves = verdict_leaves verdict.Unfit; quiet = refl }
    judged_still state verdict.Full = record { leaves = verdict_leaves verdict.Full; quiet = refl }
    judged_still state verdict.Gone = record { leaves = verdict_leaves verdict.Gone; quiet = refl }
    judged_still state verdict.Cancelled = record { leaves = verdict_leaves verdict.Cancelled; quiet = refl }

  transfer_still : (a : ActorId) (e : ℕ) (state : StateView) (old : Bool) → nat_le e (last s a) ≡ old → Makes s (judged_if old a e (judged_as s a state)) (transfer_comes s stamp sender a e state old)
  transfer_still a e state true is = old_still a e
  transfer_still a e state false is = judged_still a e is state (judged_as s a state)

  cancel_still : (a : ActorId) (e : ℕ) (old : Bool) → nat_le e (last s a) ≡ old → Makes s (judged_if old a e verdict.Cancelled) (cancel_comes s stamp sender a e old)
  cancel_still a e true is = old_still a e
  cancel_still a e false is = record { leaves = verdict_leaves a e is verdict.Cancelled; quiet = refl }

  resumed_still : (a : ActorId) (f : Frozen) (gone : Bool) → Still s (resumed s a f gone)
  resumed_still a f true = record { leaves = same_records s _ refl (none s) refl; quiet = refl }
  resumed_still a f false = record { leaves = same_records s _ refl (none s) refl; quiet = refl }

  verdict_by_still : (a : ActorId) (f : Frozen) (accepted : Bool) → Still s (verdict_by s a f accepted)
  verdict_by_still a f true = record { leaves = raise_still s a f.attempt f.target; quiet = refl }
  verdict_by_still a f false = resumed_still a f (is_gone s a.app)

  verdict_for_still : (a : ActorId) (v : Verdict) (f : Frozen) (same : Bool) → Still s (verdict_for s a v f same)
  verdict_for_still a v f false = record { leaves = leaves_none s; quiet = refl }
  verdict_for_still a v f true = verdict_by_still a f (is_accepted v)

  verdict_still : (a : ActorId) (e : ℕ) (v : Verdict) (f : Option Frozen) → Still s (verdict_comes s a e v f)
  verdict_still a e v None = record { leaves = leaves_none s; quiet = refl }
  verdict_still a e v (Some f) = verdict_for_still a v f (f.attempt == e)

  comes_still : (b : Body) → Makes s (judgement_by s b) (comes s stamp sender b)
  comes_still (body.Token conn a n t) = token_still conn a n t (map.get s.live a)
  comes_still (body.Ack conn a upto) = ack_still conn a upto (map.get s.live a)
  comes_still (body.Nack conn a upto) = nack_still conn a upto (map.get s.live a)
  comes_still (body.Transfer a e state) = transfer_still a e state (nat_le e (last s a)) refl
  comes_still (body.Verdict a e v) = verdict_still a e v (map.get s.moves.frozen a)
  comes_still (body.Cancel a e) = cancel_still a e (nat_le e (last s a)) refl
  comes_still (body.Located a e node) = record { leaves = raise_still s a e node; quiet = refl }
  comes_still (body.Destroy app) = record { leaves = same_records s _ refl (none s) refl; quiet = refl }

-- 4. Every event

-- the deed fires and deploys what the event says
pub record Follows (s : NodeState) (e : Event) (d : Did) : Type 0 where
  pub counts : Counts s (length (deployed_net e)) d.next
  pub stays : (b : ActorId) (j : Judged) → map.get d.next.moves.judged b ≡ Some j → Stood s.moves.judged (judgement_at s e) b j
  pub fires : (app : AppId) → firing_of app d.deed ≡ firing_at app e
  pub nets : (n : Nets) → CarriesNet n s e → IsOfNets n d.deed

quiet_fires : (app : AppId) (d : Deed) → is_quiet d ≡ true → firing_of app d ≡ []
quiet_fires app (Fired_action a action) is = absurd (cc)
quiet_fires app (Deployed other net) is = refl
quiet_fires app Nothing is = refl
quiet_fires app (Used a) is = refl
quiet_fires app (Passed a b c token) is = refl
quiet_fires app (Received a c t) is = refl
quiet_fires app (Froze a to e) is = refl
quiet_fires app (Accepted_here a e) is = refl
quiet_fires app (Resumed a e) is = refl
quiet_fires app (Removed a e) is = refl
quiet_fires app (Destroyed_here other) is = refl

quiet_nets : (n : Nets) (d : Deed) → is_quiet d ≡ true → IsOfNets n d
quiet_nets n (Deployed app net) is = absurd (cc)
quiet_nets n (Fired_action a action) is = tt
quiet_nets n Nothing is = tt
quiet_nets n (Used a) is = tt
quiet_nets n (Passed a b c token) is = tt
quiet_nets n (Received a c t) is = tt
quiet_nets n (Froze a to e) is = tt
quiet_nets n (Accepted_here a e) is = tt
quiet_nets n (Resumed a e) is = tt
quiet_nets n (Removed a e) is = tt
quiet_nets n (Destroyed_here app) is = tt

-- an event that neither fires nor deploys
still_follows : (s : NodeState) (e : Event) → deployed_net e ≡ [] → ((app : AppId) → firing_at app e ≡ []) → (x : Option Did) → IfSome x (Makes s (judgement_at s e)) → IfSome x (Follows s e)
still_follows s e nets fires None q = tt
still_follows s e nets fires (Some d) q = record {
  counts = subst (λ (l : List Net). Counts s (length l) d.next) (sym nets) q.leaves.counts;
  stays = q.leaves.stays;
  fires = λ app. quiet_fires app d.deed q.quiet ∙ sym (fires app);
  nets = λ n carries. quiet_nets n d.deed q.quiet;
}

fires_follow : (s : NodeState) (a : ActorId) (action : ℕ) (x : Option Did) → IfSome x (Fires s a action) → IfSome x (Follows s (event.Fire a action))
fires_follow s a action None q = tt
fires_follow s a action (Some d) q = record {
  counts = q.leaves.counts;
  stays = q.leaves.stays;
  fires = λ app. ap (firing_of app) q.deed;
  nets = λ n carries. subst (IsOfNets n) (sym q.deed) tt;
}

meet_still : (s : NodeState) (node : ℕ) (attrs : Attrs) (b : Bool) → IfSome (meet s node attrs b) (Still s)
meet_still s node attrs false = tt
meet_still s node attrs true = record { leaves = same_records s _ refl (none s) refl; quiet = refl }

tick_still : (s : NodeState) (now : ℕ) (b : Bool) → IfSome (tick s now b) (Still s)
tick_still s now false = tt
tick_still s now true = record { leaves = same_records s _ refl (none s) refl; quiet = refl }

lose_still : (s : NodeState) (b : Bool) → IfSome (lose s b) (Still s)
lose_still s false = tt
lose_still s true = record { leaves = leaves_none s; quiet = refl }

deliver_still : (s : NodeState) (stamp : ℕ) (f : Frame) (b : Bool) → IfSome (deliver s stamp f b) (Makes s (judgement_by s f.body))
deliver_still s stamp f false = tt
deliver_still s stamp f true = comes_still s stamp f.from f.body

deploy_follows : (s : NodeState) (name : List ℕ) (net : Net) (b : Bool) → IfSome (deploy s name net b) (Follows s (event.Deploy name net))
deploy_follows s name net false = tt
deploy_follows s name net true = record { counts = record { spec = refl; deployed = refl; rises = λ b. omega arith }; stays = λ b j is. inl is; fires = λ app. refl; nets = λ n carries. carries }

attempted_follows : (s : NodeState) (stamp : ℕ) (e : Event) → IfSome (attempted s stamp e) (Follows s e)
attempted_follows s stamp (event.Deploy name net) = deploy_follows s name net (nat_lt s.known.deployed most_applications)
attempted_follows s stamp (event.Fire a action) = fires_follow s a action (fire s a action (map.get s.live a)) (fire_fires s a action (map.get s.live a))
attempted_follows s stamp (event.Meet node attrs) = still_follows s (event.Meet node attrs) refl (λ app. refl) (attempted s stamp (event.Meet node attrs)) (meet_still s node attrs (is_node node))
attempted_follows s stamp (event.Tick now) = still_follows s (event.Tick now) refl (λ app. refl) (attempted s stamp (event.Tick now)) (tick_still s now (nat_le s.now now && nat_lt now limit))
attempted_follows s stamp (event.Peek a port) = still_follows s (event.Peek a port) refl (λ app. refl) (attempted s stamp (event.Peek a port)) (peek_still s a port (map.get s.live a))
attempted_follows s stamp (event.Pass conn) = still_follows s (event.Pass conn) refl (λ app. refl) (attempted s stamp (event.Pass conn)) (pass_still s (outlet s conn))
attempted_follows s stamp (event.Send conn) = still_follows s (event.Send conn) refl (λ app. refl) (attempted s stamp (event.Send conn)) (send_still s stamp (outlet s conn))
attempted_follows s stamp (event.Rewind conn) = still_follows s (event.Rewind conn) refl (λ app. refl) (attempted s stamp (event.Rewind conn)) (rewind_still s (outlet s conn))
attempted_follows s stamp (event.Freeze a to) = still_follows s (event.Freeze a to) refl (λ app. refl) (attempted s stamp (event.Freeze a to)) (freeze_still s stamp a to (map.get s.live a))
attempted_follows s stamp (event.Resend a) = still_follows s (event.Resend a) refl (λ app. refl) (attempted s stamp (event.Resend a)) (resend_still s stamp a (map.get s.moves.frozen a))
attempted_follows s stamp (event.Withdraw a) = still_follows s (event.Withdraw a) refl (λ app. refl) (attempted s stamp (event.Withdraw a)) (withdraw_still s stamp a (map.get s.moves.frozen a))
attempted_follows s stamp (event.Hint a e node) = still_follows s (event.Hint a e node) refl (λ app. refl) (attempted s stamp (event.Hint a e node)) (record { leaves = raise_still s a e node; quiet = refl })
attempted_follows s stamp (event.Destroy app) = still_follows s (event.Destroy app) refl (λ app. refl) (attempted s stamp (event.Destroy app)) (destroy_still s stamp app (map.get s.known.apps app))
attempted_follows s stamp (event.Lose f) = still_follows s (event.Lose f) refl (λ app. refl) (attempted s stamp (event.Lose f)) (lose_still s (f.to == s.spec.no))
attempted_follows s stamp (event.Deliver f) = still_follows s (event.Deliver f) refl (λ app. refl) (attempted s stamp (event.Deliver f)) (deliver_still s stamp f ((f.to == s.spec.no) && nat_lt f.stamp limit))

stamped_follows : (s : NodeState) (e : Event) (stamp : ℕ) (d : Did) (b : Bool) → Follows s e d → IfSome (stamped_if stamp d b) (Follows s e)
stamped_follows s e stamp d false q = tt
stamped_follows s e stamp d true q = record { counts = record { spec = q.counts.spec; deployed = q.counts.deployed; rises = q.counts.rises }; stays = q.stays; fires = q.fires; nets = q.nets }

bounded_follows : (s : NodeState) (e : Event) (stamp : ℕ) (x : Option Did) → IfSome x (Follows s e) → IfSome (stamped stamp x) (Follows s e)
bounded_follows s e stamp None q = tt
bounded_follows s e stamp (Some d) q = stamped_follows s e stamp d (is_bounded stamp d) q

pub row_follows : (s : NodeState) (e : Event) → IfSome (row s e) (Follows s e)
row_follows s e = bounded_follows s e (stamp_of s e) (attempted s (stamp_of s e) e) (attempted_follows s (stamp_of s e) e)

-- 5. Journals

did_counts : (s : NodeState) (e : Event) (b : Bool) (x : Option Did) → IfSome x (Follows s e) → (t : NodeState) → next_of (did_if b x) ≡ Some t → Counts s (length (deployed_net e)) t
did_counts s e false x q t is = absurd (none_some t is)
did_counts s e true None q t is = absurd (none_some t is)
did_counts s e true (Some d) q t is = subst (Counts s (length (deployed_net e))) (same_Some d.next t is) q.counts

entry_counts : (s : NodeState) (e : Entry) (t : NodeState) → next_of (did_at s e) ≡ Some t → Counts s (length (deployed_net e.event)) t
entry_counts s e t is = did_counts s e.event (e.stamp == stamp_of s e.event) (row s e.event) (row_follows s e.event) t is

rest_counts : (s : NodeState) (e : Entry) (es : List Entry) (x : Option NodeState) (u : NodeState) → ((t : NodeState) → x ≡ Some t → Counts s (length (deployed_net e.event)) t) → ((t : NodeState) → replay t es ≡ Some u → Counts t (length (deployed_nets es)) u) → option_and_then (λ (t : NodeState). replay t es) x ≡ Some u → Counts s (length (deployed_nets (e ∷ es))) u
rest_counts s e es None u first later is = absurd (none_some u is)
rest_counts s e es (Some t) u first later is =
    let p = first t refl in
    let q = later t is in
    let parts : length (deployed_nets (e ∷ es)) ≡ length (deployed_net e.event) + length (deployed_nets es) = length-append (deployed_net e.event) (deployed_nets es) in
    record { spec = q.spec ∙ p.spec; deployed = omega (arith, p.deployed, q.deployed, parts); rises = λ b. omega (arith, p.rises b, q.rises b) }

-- a node has deployed as many applications as its journal says
pub replay_counts : (s : NodeState) (es : List Entry) (u : NodeState) → replay s es ≡ Some u → Counts s (length (deployed_nets es)) u
replay_counts s [] u is = subst (Counts s 0) (same_Some s u is) (leaves_none s).counts
replay_counts s (e ∷ es) u is = rest_counts s e es (next_of (did_at s e)) u (entry_counts s e) (λ t later. replay_counts t es u later) is
