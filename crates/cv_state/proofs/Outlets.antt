-- Producers that live here, as the code is told of them, and the rows Rewind and Send.
use Rattle.std.proofs.Common.{◌≡◌, ℕ, ◌-◌, ◌<◌, ◌&&◌, nat_lt, Bool, true, false, if◌then◌else◌, length, slice_get, Option, Some, None, refl, ap, sym, ◌∙◌, subst}
use Rattle.std.specs.Prelude.{IsSome, IsSomeAnd}
use Rattle.std.specs.Option.{option_map}
use Rattle.std.proofs.lemmas.Bool.{ltb-true}
use Rattle.std.proofs.lemmas.Option.{slice_get_within}
use Rattle.std.specs.FinMap as map
use Rattle.cv_token.specs.declared.identifiers.ActorId.{ActorId}
use Rattle.cv_token.specs.declared.identifiers.ConnId.{ConnId}
use Rattle.cv_queue.specs.declared.reader.Reader.{Reader}
use Rattle.cv_queue.specs.Ports.{OutView, HasUnsent, count_of, after_rewind, after_sent}
use Rattle.cv_endpoint.specs.Ends.{next_number, next_of as next_by}
use Rattle.cv_protocol.specs.Actors.{LiveState}
use Rattle.cv_protocol.specs.NodeState.{NodeState}
use Rattle.cv_protocol.specs.Rows.{Outlet, Spot, outlet as outlet_of, outlet_at, outlet_by, outlet_here, spot_of, with_out}
use Rattle.cv_state.specs.declared.outlet.Outlet.{Outlet as Found}
use Rattle.cv_state.specs.Outlets.{next_at, next_of, numbered, outlet_in, rewound_at, sent_at}
use Rattle.cv_state.proofs.Ends.{Stands, stands}

-- 1. Outlets that the code was told

-- what is known of an outlet as the code was told of it
pub record Has (s : NodeState) (conn : ConnId) (f : Found) : Type 0 where
  pub outlet : Outlet
  pub there : outlet_of s conn ≡ Some outlet
  pub is : f ≡ outlet_in outlet
  pub lives : map.get s.live f.producer ≡ Some outlet.live
  pub stands : Stands outlet.live.actor.outs outlet.spot

has_at : (s : NodeState) (conn : ConnId) (a : ActorId) (l : LiveState) (o : Option Spot) (f : Found) → outlet_of s conn ≡ outlet_at a l o → map.get s.live a ≡ Some l → spot_of conn 0 l.actor.outs ≡ o → Some f ≡ option_map outlet_in (outlet_at a l o) → Has s conn f
has_at s conn a l None f there lives spot e = absurd (cc)
has_at s conn a l (Some x) f there lives spot e =
    let o : Outlet = record { producer = a; live = l; spot = x } in
    let same : f ≡ outlet_in o = cc in
    record {
      outlet = o;
      there = there;
      is = same;
      lives = subst (λ (g : Found). map.get s.live g.producer ≡ Some l) (sym same) lives;
      stands = stands conn l.actor.outs x spot;
    }

has_here : (s : NodeState) (conn : ConnId) (a : ActorId) (l : Option LiveState) (f : Found) → outlet_of s conn ≡ outlet_here conn a l → map.get s.live a ≡ l → Some f ≡ option_map outlet_in (outlet_here conn a l) → Has s conn f
has_here s conn a None f there lives e = absurd (cc)
has_here s conn a (Some l) f there lives e = has_at s conn a l (spot_of conn 0 l.actor.outs) f there lives refl e

has_by : (s : NodeState) (conn : ConnId) (a : Option ActorId) (f : Found) → outlet_of s conn ≡ outlet_by s conn a → Some f ≡ option_map outlet_in (outlet_by s conn a) → Has s conn f
has_by s conn None f there e = absurd (cc)
has_by s conn (Some a) f there e = has_here s conn a (map.get s.live a) f there refl e

pub has : (s : NodeState) (conn : ConnId) (f : Found) → Some f ≡ option_map outlet_in (outlet_of s conn) → Has s conn f
has s conn f e = has_by s conn (map.get s.known.producers conn) f refl e

-- the port that the code found there
pub record Lent (x : Outlet) (f : Found) (l : LiveState) (o : OutView) : Type 0 where
  pub live : l ≡ x.live
  pub port : o ≡ x.spot.port
  pub within : f.spot.number < length o.readers

pub lent : (s : NodeState) (conn : ConnId) (f : Found) (h : Has s conn f) (l : LiveState) (o : OutView) → Some l ≡ map.get s.live f.producer → Some o ≡ slice_get l.actor.outs f.spot.out → Lent h.outlet f l o
lent s conn f h l o found is =
    let lives : Some l ≡ Some h.outlet.live = found ∙ h.lives in
    let live : l ≡ h.outlet.live = cc in
    let out : f.spot.out ≡ h.outlet.spot.out = ap (λ (y : Found). y.spot.out) h.is in
    let number : f.spot.number ≡ h.outlet.spot.number = ap (λ (y : Found). y.spot.number) h.is in
    let ports : Some o ≡ Some h.outlet.spot.port = is ∙ (λ i. slice_get (live i).actor.outs (out i)) ∙ h.stands.port in
    let port : o ≡ h.outlet.spot.port = cc in
    let within : h.outlet.spot.number < length h.outlet.spot.port.readers = slice_get_within h.outlet.spot.port.readers h.outlet.spot.number h.outlet.spot.reader h.stands.reader in
    record {
      live = live;
      port = port;
      within = subst (λ (p : OutView). f.spot.number < length p.readers) (sym port) (subst (λ (k : ℕ). k < length h.outlet.spot.port.readers) (sym number) within);
    }

pub not_portless : (s : NodeState) (conn : ConnId) (f : Found) (h : Has s conn f) (l : LiveState) → Some l ≡ map.get s.live f.producer → None ≡ slice_get l.actor.outs f.spot.out → ⊥
not_portless s conn f h l found none =
    let lives : Some l ≡ Some h.outlet.live = found ∙ h.lives in
    let live : l ≡ h.outlet.live = cc in
    let out : f.spot.out ≡ h.outlet.spot.out = ap (λ (y : Found). y.spot.out) h.is in
    let same : None ≡ Some h.outlet.spot.port = none ∙ (λ i. slice_get (live i).actor.outs (out i)) ∙ h.stands.port in
    cc

-- the state once the port was written
pub sent_is : (s : NodeState) (conn : ConnId) (f : Found) (h : Has s conn f) (l : LiveState) (o p : OutView) → Lent h.outlet f l o → p ≡ after_sent o f.spot.number → record s { live = map.insert s.live f.producer (with_out l f.spot.out p) } ≡ sent_at s (outlet_of s conn)
sent_is s conn f h l o p t is =
    ap (λ (q : OutView). record s { live = map.insert s.live f.producer (with_out l f.spot.out q) }) is
    ∙ (λ i. record s { live = map.insert s.live (h.is i).producer (with_out (t.live i) (h.is i).spot.out (after_sent (t.port i) (h.is i).spot.number)) })
    ∙ ap (sent_at s) (sym h.there)

pub rewound_is : (s : NodeState) (conn : ConnId) (f : Found) (h : Has s conn f) (l : LiveState) (o p : OutView) → Lent h.outlet f l o → p ≡ after_rewind o f.spot.number → record s { live = map.insert s.live f.producer (with_out l f.spot.out p) } ≡ rewound_at s (outlet_of s conn)
rewound_is s conn f h l o p t is =
    ap (λ (q : OutView). record s { live = map.insert s.live f.producer (with_out l f.spot.out q) }) is
    ∙ (λ i. record s { live = map.insert s.live (h.is i).producer (with_out (t.live i) (h.is i).spot.out (after_rewind (t.port i) (h.is i).spot.number)) })
    ∙ ap (rewound_at s) (sym h.there)

-- the token that is next, at the port that the code found
pub next_is : (s : NodeState) (conn : ConnId) (f : Found) (h : Has s conn f) (l : LiveState) (o : OutView) → Lent h.outlet f l o → next_of o f.spot.number s.spec.window ≡ next_at s.spec.window (outlet_of s conn)
next_is s conn f h l o t =
    (λ i. next_of (t.port i) (h.is i).spot.number s.spec.window) ∙ ap (next_at s.spec.window) (sym h.there)

-- 2. Tokens that were not sent

-- a token that is next was not sent
unsent_at : (o : OutView) (reader n : ℕ) (r : Reader) (a b : Bool) → nat_lt r.sent (count_of o reader) ≡ a → (if a && b then Some r.sent else None) ≡ Some n → HasUnsent o reader r
unsent_at o reader n r true b is e = ltb-true _ _ is
unsent_at o reader n r false b is e = absurd (cc)

unsent_by : (o : OutView) (reader window n : ℕ) (r : Option Reader) → next_by o reader window r ≡ Some n → IsSomeAnd r (HasUnsent o reader)
unsent_by o reader window n None e = absurd (cc)
unsent_by o reader window n (Some r) e = unsent_at o reader n r (nat_lt r.sent (count_of o reader)) (nat_lt (r.sent - r.acked) window) refl e

unsent_next : (o : OutView) (reader window : ℕ) (n : Option ℕ) → next_number o reader window ≡ n → IsSome (numbered o reader n) → IsSomeAnd (slice_get o.readers reader) (HasUnsent o reader)
unsent_next o reader window None e some = absurd (cc)
unsent_next o reader window (Some n) e some = unsent_by o reader window n (slice_get o.readers reader) e

pub unsent : (o : OutView) (reader window : ℕ) → IsSome (next_of o reader window) → IsSomeAnd (slice_get o.readers reader) (HasUnsent o reader)
unsent o reader window some = unsent_next o reader window (next_number o reader window) refl some

pub unsent_there : (s : NodeState) (conn : ConnId) (f : Found) (h : Has s conn f) (l : LiveState) (o : OutView) → Lent h.outlet f l o → IsSome (next_at s.spec.window (outlet_of s conn)) → IsSomeAnd (slice_get o.readers f.spot.number) (HasUnsent o f.spot.number)
unsent_there s conn f h l o t some = unsent o f.spot.number s.spec.window (subst IsSome (sym (next_is s conn f h l o t)) some)
