-- Streams before anything was deployed: every copy is the actor at its start.
use Rattle.std.proofs.Common.{◌≡◌, ℕ, ◌+◌, ◌≤◌, List, [], length, drop, Some, refl, sym, ap, subst, ◌∙◌, arith}
use Rattle.std.specs.Prelude.{slice_get}
use Rattle.std.proofs.Math.Seq.{drop-nil}
use Rattle.std.proofs.lemmas.Option.{none-some as none_some}
use Rattle.cv_token.specs.declared.identifiers.ActorId.{ActorId}
use Rattle.cv_token.specs.declared.identifiers.ConnId.{ConnId}
use Rattle.cv_kinds.specs.KindRow.{row_of}
use Rattle.cv_queue.specs.declared.reader.Reader.{Reader}
use Rattle.cv_queue.specs.declared.reader.Subscription.{Subscription}
use Rattle.cv_queue.specs.Ports.{OutView, InView, IsInPort, count, spread, place, reader_from, new_in, new_out}
use Rattle.cv_queue.proofs.Kept.{is_new_out}
use Rattle.cv_queue.proofs.Lists.{slice_get_mapped}
use Rattle.cv_queue.proofs.Positions.{count_within}
use Rattle.cv_endpoint.proofs.Effects.{token_at_some}
use Rattle.cv_protocol.specs.declared.state.Inlet.{Inlet}
use Rattle.cv_protocol.specs.Travel.{queue_length, readers_of}
use Rattle.cv_handover.specs.Meaning.{Nets, Meaning, spec_of, fresh}
use Rattle.cv_handover.specs.Agree.{InAgrees, ReaderAgrees, OutAgrees, ActorAgrees, Streams}
use Rattle.cv_handover.proofs.Wiring.{inlets_are, outs_are}

module _ (n : Nets) (m : Meaning) (slots : (a : ActorId) → m.slots a ≡ (fresh n a).slots) (wrote : (c : ConnId) → m.wrote c ≡ []) (took : (c : ConnId) → m.took c ≡ 0) (got : (c : ConnId) → m.got c ≡ []) where
  new_inlet : (i : Inlet) → i.port ≡ new_in queue_length → InAgrees m i
  new_inlet i e = record {
    port = subst IsInPort (sym e) (record { some_room = omega arith; within_room = omega arith; read_are_held = omega arith; bounded = omega arith });
    taken = ap (λ (p : InView). p.taken) e ∙ sym (took i.conn);
    held = ap (λ (p : InView). p.held) e ∙ sym (drop-nil (m.took i.conn)) ∙ ap (drop (m.took i.conn)) (sym (got i.conn));
    arrived = ap (λ (p : InView). p.taken + length p.held) e ∙ sym (ap length (got i.conn));
  }

  new_reader : (readers : List Subscription) (k : ℕ) (r : Reader) → slice_get (new_out queue_length readers).readers k ≡ Some r → ReaderAgrees m (new_out queue_length readers) k r
  new_reader readers k r e =
      let o : OutView = new_out queue_length readers in
      let s = slice_get_mapped (reader_from 0) readers k r e in
      let none : count (spread o) 0 k ≤ 0 = count_within (spread o) 0 k in
      let empty = ap length (wrote r.conn) in
      let acked : r.acked ≡ 0 = ap (λ (x : Reader). x.acked) (sym s.2) in
      record {
        counted = omega (arith, none, empty);
        kept = λ i t h. absurd (none_some t (token_at_some o (place (spread o) k i) t h).1);
        confirmed = omega (arith, acked);
      }

  new_out_agrees : (readers : List Subscription) → OutAgrees m (new_out queue_length readers)
  new_out_agrees readers = record { port = is_new_out queue_length readers (omega arith); readers = new_reader readers }

  new_actor_agrees : (a : ActorId) → ActorAgrees n m a (fresh n a)
  new_actor_agrees a = record {
    alike = record { spec = refl; slots = sym (slots a); fed = refl; read = refl };
    ins = λ p i e. new_inlet i (inlets_are a.app (n.net a.app).connections a.actor 0 (row_of (spec_of n a).kind).inports p i e).new;
    outs = λ q o e. subst (OutAgrees m) (sym (outs_are a.app (n.net a.app).connections a.actor 0 (row_of (spec_of n a).kind).outports q o e)) (new_out_agrees (readers_of a.app 0 (n.net a.app).connections a.actor (0 + q)));
  }

  pub streams_fresh : Streams n m (fresh n)
  streams_fresh = record {
    actors = new_actor_agrees;
    ordered = λ c i t e. absurd (none_some t (ap (λ ts. slice_get ts i) (sym (got c)) ∙ e));
    taken = λ c. let z = took c in omega (arith, z);
  }
