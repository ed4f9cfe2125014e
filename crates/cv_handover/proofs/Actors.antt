-- The one copy of an actor against the meaning: what a change of its ports leaves.
use Rattle.std.proofs.Common.{◌≡◌, inl, inr, ℕ, ◌≤◌, true, false, List, map, Option, Some, None, refl, sym, ap, subst, ◌∙◌, arith, if◌then◌else◌}
use Rattle.std.specs.Prelude.{slice_get, slice_set}
use Rattle.std.proofs.lemmas.Option.{same_Some, none-some as none_some}
use Rattle.cv_token.specs.declared.identifiers.ActorId.{ActorId}
use Rattle.cv_table.specs.Order.{same_actor}
use Rattle.cv_queue.specs.declared.reader.Reader.{Reader}
use Rattle.cv_queue.specs.Ports.{OutView, after_cancel}
use Rattle.cv_queue.proofs.Lists.{slice_get_written, slice_get_mapped}
use Rattle.cv_protocol.specs.declared.state.Inlet.{Inlet}
use Rattle.cv_protocol.specs.Actors.{Actor}
use Rattle.cv_protocol.specs.Travel.{cancelled, rewound_reader, rewound, settled}
use Rattle.cv_protocol.specs.NodeState.{rewound_for}
use Rattle.cv_handover.specs.Meaning.{Nets, Meaning, fed_by, read_by}
use Rattle.cv_handover.specs.Agree.{InAgrees, OutAgrees, ActorAgrees}
use Rattle.cv_handover.proofs.Seqs.{map_set_same, map_map_same}
use Rattle.cv_handover.proofs.Ports.{in_read, out_follows, Lowers, follows_lowered}

-- one inport is another with the same connection
inlet_written : (m : Meaning) (ins : List (Option Inlet)) (p : ℕ) (i : Inlet) → InAgrees m i → ((q : ℕ) (j : Inlet) → slice_get ins q ≡ Some (Some j) → InAgrees m j) → (q : ℕ) (j : Inlet) → slice_get (slice_set ins p (Some i)) q ≡ Some (Some j) → InAgrees m j
inlet_written m ins p i a old q j e =
    elim (slice_get_written ins p (Some i) q (Some j) e) [
      | inl w ↦ subst (InAgrees m) (sym (same_Some j i w.1)) a
      | inr w ↦ old q j w
    ]

pub actor_inlet : (n : Nets) (m : Meaning) (a : ActorId) (x : Actor) (p : ℕ) (i j : Inlet) → ActorAgrees n m a x → slice_get x.ins p ≡ Some (Some i) → j.conn ≡ i.conn → InAgrees m j → ActorAgrees n m a (record x { ins = slice_set x.ins p (Some j) })
actor_inlet n m a x p i j g stood conn new = record {
  alike = record {
    spec = g.alike.spec;
    slots = g.alike.slots;
    fed = map_set_same fed_by x.ins p (Some i) (Some j) stood (ap Some conn) ∙ g.alike.fed;
    read = g.alike.read;
  };
  ins = inlet_written m x.ins p j new g.ins;
  outs = g.outs;
}

-- one outport is another with the same readers
out_written : (m : Meaning) (outs : List OutView) (q : ℕ) (o : OutView) → OutAgrees m o → ((r : ℕ) (p : OutView) → slice_get outs r ≡ Some p → OutAgrees m p) → (r : ℕ) (p : OutView) → slice_get (slice_set outs q o) r ≡ Some p → OutAgrees m p
out_written m outs q o a old r p e =
    elim (slice_get_written outs q o r p e) [
      | inl w ↦ subst (OutAgrees m) (sym w.1) a
      | inr w ↦ old r p w
    ]

pub actor_out : (n : Nets) (m : Meaning) (a : ActorId) (x : Actor) (q : ℕ) (o p : OutView) → ActorAgrees n m a x → slice_get x.outs q ≡ Some o → read_by p ≡ read_by o → OutAgrees m p → ActorAgrees n m a (record x { outs = slice_set x.outs q p })
actor_out n m a x q o p g stood same new = record {
  alike = record {
    spec = g.alike.spec;
    slots = g.alike.slots;
    fed = g.alike.fed;
    read = map_set_same read_by x.outs q o p stood same ∙ g.alike.read;
  };
  ins = g.ins;
  outs = out_written m x.outs q p new g.outs;
}

-- every reader's place is lowered
pub actor_lowered : (n : Nets) (m : Meaning) (a : ActorId) (x : Actor) (f : Reader → Reader) → Lowers f → ActorAgrees n m a x → ActorAgrees n m a (record x { outs = map (λ (o : OutView). record o { readers = map f o.readers }) x.outs })
actor_lowered n m a x f l g = record {
  alike = record {
    spec = g.alike.spec;
    slots = g.alike.slots;
    fed = g.alike.fed;
    read = map_map_same read_by (λ (o : OutView). record o { readers = map f o.readers }) (λ o. map_map_same (λ (r : Reader). r.conn) f l.conn o.readers) x.outs ∙ g.alike.read;
  };
  ins = g.ins;
  outs =
      λ q p e.
      let s = slice_get_mapped (λ (o : OutView). record o { readers = map f o.readers }) x.outs q p e in
      let old = g.outs q s.0 s.1 in
      subst (OutAgrees m) s.2 (out_follows m s.0 (record s.0 { readers = map f s.0.readers }) old (follows_lowered m f l s.0 old));
}

all_lower : Lowers rewound_reader
all_lower = record { conn = λ r. refl; acked = λ r. refl; sent = λ r h. (omega arith, omega arith) }

some_lower : (b : ActorId) → Lowers (rewound_for b)
some_lower b = record {
  conn = λ r. elim (same_actor r.consumer b) as (λ t. (if t then rewound_reader r else r).conn ≡ r.conn) [ true ↦ refl | false ↦ refl ];
  acked = λ r. elim (same_actor r.consumer b) as (λ t. (if t then rewound_reader r else r).acked ≡ r.acked) [ true ↦ refl | false ↦ refl ];
  sent =
      λ r h.
      elim (same_actor r.consumer b) as (λ t. (r.acked ≤ (if t then rewound_reader r else r).sent) × ((if t then rewound_reader r else r).sent ≤ r.sent)) [ true ↦ (omega arith, h) | false ↦ (h, omega arith) ];
}

-- a copy whose readers are rewound, all or those of one consumer
pub actor_rewound : (n : Nets) (m : Meaning) (a : ActorId) (x : Actor) → ActorAgrees n m a x → ActorAgrees n m a (rewound x)
actor_rewound n m a x g = actor_lowered n m a x rewound_reader all_lower g

pub actor_rewound_for : (n : Nets) (m : Meaning) (a b : ActorId) (x : Actor) → ActorAgrees n m a x → ActorAgrees n m a (record x { outs = map (λ (o : OutView). record o { readers = map (rewound_for b) o.readers }) x.outs })
actor_rewound_for n m a b x g = actor_lowered n m a x (rewound_for b) (some_lower b) g

fed_cancelled : (i : Option Inlet) → fed_by (cancelled i) ≡ fed_by i
fed_cancelled None = refl
fed_cancelled (Some i) = refl

inlet_cancelled : (m : Meaning) (i : Option Inlet) (j : Inlet) → cancelled i ≡ Some j → ((k : Inlet) → i ≡ Some k → InAgrees m k) → InAgrees m j
inlet_cancelled m None j e old = absurd (none_some j e)
inlet_cancelled m (Some i) j e old =
    subst (InAgrees m) (same_Some (record i { port = after_cancel i.port }) j e) (in_read m i 0 (old i refl) (omega arith))

-- a copy that leaves: nothing is read, and readers are rewound
pub actor_settled : (n : Nets) (m : Meaning) (a : ActorId) (x : Actor) → ActorAgrees n m a x → ActorAgrees n m a (settled x)
actor_settled n m a x g =
    let r = actor_rewound n m a x g in
    record {
      alike = record {
        spec = r.alike.spec;
        slots = r.alike.slots;
        fed = map_map_same fed_by cancelled fed_cancelled x.ins ∙ g.alike.fed;
        read = r.alike.read;
      };
      ins =
          λ p j e.
          let s = slice_get_mapped cancelled x.ins p (Some j) e in
          inlet_cancelled m s.0 j s.2 (λ k h. g.ins p k (s.1 ∙ ap Some h));
      outs = r.outs;
    }
