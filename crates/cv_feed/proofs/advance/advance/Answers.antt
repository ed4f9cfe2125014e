use Rattle.std.proofs.Common.{◌≡◌, ℕ, ◌+◌, ◌-◌, ◌<◌, ◌≤◌, List, length, take, drop, subst, arith}
use Rattle.std.proofs.lemmas.List.{take_all, length-drop}
use Rattle.cv_feed.proofs.Reading.{takes_more, none_where_stuck, silent_now}
use Rattle.cv_feed.specs.Streams.{Waits}
use Rattle.cv_feed.proofs.advance.advance.Goals as goal

-- a slice to the end
from_at : (at : ℕ) (bytes : List ℕ) → take (length bytes - at) (drop at bytes) ≡ drop at bytes
from_at at bytes = take_all (length bytes - at) (drop at bytes) (omega (arith, length-drop at bytes))

pub loop-message-preserved : goal.loop-message-preserved
loop-message-preserved g c =
    let message = rw c.in-Message.is at c.in_ok-message.ensures.message in
    let here = subst (λ (b : List ℕ). (0 < c.in-Message.len) × (c.in-Message.len ≤ length b) × g.T.Format.Spells c.in-Message.message (take c.in-Message.len b)) (from_at c.loop-message.at c.args.bytes.now) message in
    let most : c.in-Message.len ≤ length (drop c.loop-message.at c.args.bytes.now) = here.1 in
    let fits : c.loop-message.at + c.in-Message.len ≤ length c.args.bytes.now =
    omega (arith, length-drop c.loop-message.at c.args.bytes.now) in
    let more = takes_more g.T.Format.Spells c.args.waiting.now.items c.loop-message.waiting.items c.in-Message.message
    c.args.bytes.now c.loop-message.at c.in-Message.len c.loop-message.invariant.1 here.2 in
    (fits, rw c.in_ok-push_back-in-Message.ensures.items more)

pub returns-in-Fault-clause-none : goal.returns-in-Fault-clause-none
returns-in-Fault-clause-none g c =
    none_where_stuck g.T.Format.Spells g.T.Format.Stands g.met.T.Format.stuck c.in-Fault.fault
    (drop c.loop-message.at c.args.bytes.now)
    (subst (λ (b : List ℕ). g.T.Format.Stands c.in-Fault.fault b) (from_at c.loop-message.at c.args.bytes.now)
    (rw c.in-Fault.is at c.in_ok-message.ensures.fault))

pub returns-in-Need-clause-none : goal.returns-in-Need-clause-none
returns-in-Need-clause-none g c =
    let need = subst (λ (b : List ℕ). (length b < c.in-Need.need) × (c.in-Need.need ≤ g.T.Format.most)
    × Waits g.T.Format.Spells g.T.Format.Due c.in-Need.need b) (from_at c.loop-message.at c.args.bytes.now)
    (rw c.in-Need.is at c.in_ok-message.ensures.need) in
    (silent_now g.T.Format.Spells g.T.Format.Due c.in-Need.need (drop c.loop-message.at c.args.bytes.now) need.2 need.0).0
