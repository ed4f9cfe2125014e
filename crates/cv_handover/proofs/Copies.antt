-- Streams when copies change and the meaning does not: an actor leaves or comes back, or all of a node are rewound; and streams at
-- the start.
use Rattle.std.proofs.Common.{◌≡◌, inl, inr, ℕ, ◌≤◌, length, map, Some, sym, subst}
use Rattle.std.specs.Prelude.{slice_get}
use Rattle.cv_token.specs.declared.token.Token.{Token}
use Rattle.cv_token.specs.declared.identifiers.ActorId.{ActorId}
use Rattle.cv_token.specs.declared.identifiers.ConnId.{ConnId}
use Rattle.cv_queue.specs.Ports.{OutView}
use Rattle.cv_protocol.specs.Actors.{Actor}
use Rattle.cv_protocol.specs.Travel.{rewound, settled}
use Rattle.cv_protocol.specs.NodeState.{rewound_for}
use Rattle.cv_protocol.specs.Owners.{Owners, is_at}
use Rattle.cv_handover.specs.Meaning.{Nets, Meaning}
use Rattle.cv_handover.specs.Agree.{History, ActorAgrees, Streams}
use Rattle.cv_handover.proofs.Actors.{actor_rewound, actor_rewound_for, actor_settled}
use Rattle.cv_handover.proofs.Many.{with_changed}
use Rattle.cv_handover.proofs.Places.{set, set_cases, where_so_cases}

-- 1. One copy is another

set_agrees : (n : Nets) (m v : Meaning) (copy : ActorId → Actor) (a : ActorId) (x : Actor) → ActorAgrees n v a x → ((b : ActorId) → ((b ≡ a) → ⊥) → ActorAgrees n v b (copy b)) → (b : ActorId) → ActorAgrees n v b (set copy a x b)
set_agrees n m v copy a x new old b =
    elim (set_cases copy a x b) [
      | inl s ↦ subst (λ (y : Actor). ActorAgrees n v b y) (sym s.1) (subst (λ (c : ActorId). ActorAgrees n v c x) (sym s.0) new)
      | inr s ↦ subst (λ (y : Actor). ActorAgrees n v b y) (sym s.1) (old b s.0)
    ]

-- the meaning may change too, where each other copy agrees with the new one
pub streams_put : (n : Nets) (m v : Meaning) (copy : ActorId → Actor) (a : ActorId) (x : Actor) → Streams n m copy → ActorAgrees n v a x → ((b : ActorId) → ((b ≡ a) → ⊥) → ActorAgrees n v b (copy b)) → ((c : ConnId) (i : ℕ) (t : Token) → slice_get (v.got c) i ≡ Some t → slice_get (v.wrote c) i ≡ Some t) → ((c : ConnId) → v.took c ≤ length (v.got c)) → Streams n v (set copy a x)
streams_put n m v copy a x s new old ordered taken = record {
  actors = set_agrees n m v copy a x new old;
  ordered = ordered;
  taken = taken;
}

-- owners are not seen
pub streams_owner : (n : Nets) (m : Meaning) (copy : ActorId → Actor) (owner : Owners) → Streams n m copy → Streams n (record m { owner = owner }) copy
streams_owner n m copy owner s = record {
  actors =
      λ a.
      let g = s.actors a in
      record {
        alike = record { spec = g.alike.spec; slots = g.alike.slots; fed = g.alike.fed; read = g.alike.read };
        ins = λ p i e. let q = g.ins p i e in record { port = q.port; taken = q.taken; held = q.held; arrived = q.arrived };
        outs =
            λ q o e.
            let u = g.outs q o e in
            record { port = u.port; readers = λ k r f. let c = u.readers k r f in record { counted = c.counted; kept = c.kept; confirmed = c.confirmed } };
      };
  ordered = s.ordered;
  taken = s.taken;
}

pub streams_set : (n : Nets) (m : Meaning) (copy : ActorId → Actor) (a : ActorId) (x : Actor) → Streams n m copy → ActorAgrees n m a x → Streams n m (set copy a x)
streams_set n m copy a x s new = streams_put n m m copy a x s new (λ b other. s.actors b) s.ordered s.taken

-- an actor leaves: nothing is read, and its readers are rewound
pub streams_capture : (n : Nets) (m : Meaning) (copy : ActorId → Actor) (a : ActorId) (x : Actor) → Streams n m copy → x ≡ copy a → Streams n m (set copy a (settled x))
streams_capture n m copy a x s is = streams_set n m copy a (settled x) s (actor_settled n m a x (subst (ActorAgrees n m a) (sym is) (s.actors a)))

-- an actor lives again: its readers are rewound
pub streams_restore : (n : Nets) (m : Meaning) (copy : ActorId → Actor) (a : ActorId) (x : Actor) → Streams n m copy → x ≡ copy a → Streams n m (set copy a (rewound x))
streams_restore n m copy a x s is = streams_set n m copy a (rewound x) s (actor_rewound n m a x (subst (ActorAgrees n m a) (sym is) (s.actors a)))

-- 2. All live actors of a node are rewound towards one

-- an actor whose readers of that consumer are rewound
abbrev pub turned : ActorId → Actor → Actor
turned b x = record x { outs = map (λ (o : OutView). record o { readers = map (rewound_for b) o.readers }) x.outs }

pub streams_rewound : (n : Nets) (m : Meaning) (owner : Owners) (h : History) (i : ℕ) (b : ActorId) → Streams n m h.copy → Streams n m (with_changed owner h i (turned b)).copy
streams_rewound n m owner h i b s = record {
  actors =
      λ a.
      elim (where_so_cases h.copy (λ c. is_at i (owner c)) (λ c. turned b (h.copy c)) a) [
        | inl t ↦ subst (ActorAgrees n m a) (sym t.1) (actor_rewound_for n m a b (h.copy a) (s.actors a))
        | inr t ↦ subst (ActorAgrees n m a) (sym t.1) (s.actors a)
      ];
  ordered = s.ordered;
  taken = s.taken;
}
