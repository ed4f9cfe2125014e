-- What a poll does and answers, in the words of the node table.
use Rattle.std.specs.Prelude.{◌≡◌, ℕ}
use Rattle.cv_protocol.specs.Actors.{LiveState}
use Rattle.cv_protocol.specs.Poll.{Answer, Fired, Held, Waiting, fired}
use Rattle.cv_actor.specs.declared.act.Polled.{Polled}
use Rattle.cv_actor.specs.declared.act.Polled.TheVariants as polled
use Rattle.cv_actor.specs.Polled.{peeked, put_from, no_lacks}

-- by the answer of the node table: what is told, and what the actor becomes
abbrev pub HasDone : LiveState → ℕ → Answer → Polled → LiveState → Type 0
HasDone l now (Fired action) told next = (told ≡ polled.Fired action) × (next ≡ fired l now action)
HasDone l now (Held port count) told next = (told ≡ polled.Held port) × (next ≡ peeked l port count)
HasDone l now (Waiting lacks) told next = (told ≡ polled.Waiting (put_from no_lacks 0 lacks)) × (next ≡ l)
