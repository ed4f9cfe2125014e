use Rattle.std.proofs.Common.{◌<◌, ◌≤◌, length, arith}
use Rattle.std.specs.FinMap.{entries, len-entries}
use Rattle.cv_token.specs.declared.identifiers.ActorId.{ActorId}
use Rattle.cv_protocol.specs.declared.moving.Location.{Location}
use Rattle.cv_protocol.specs.Rows.{hint_of, is_joined}
use Rattle.cv_state.proofs.Keeps.{kept_next, kept_whole}
use Rattle.cv_state.proofs.leaving.joined_hints.Goals as goal

pub loop-place-preserved : goal.loop-place-preserved
loop-place-preserved c =
    let m = c.args.hints.now.map in
    let within : c.loop-place.place < length (entries m) = omega (arith, len-entries m) in
    kept_next hint_of (λ (e : ActorId × Location). is_joined c.args.actor c.args.live.now.actor e.0) (entries m) c.loop-place.place c.joined_hint.result c.loop-place.joined c.add.new.hints _ c.joined_hint.ensures c.in_ok-add.ensures within c.loop-place.invariant

pub returns : goal.returns
returns c =
    let m = c.args.hints.now.map in
    let past : length (entries m) ≤ c.loop-place.place = omega (arith, len-entries m) in
    kept_whole hint_of (λ (e : ActorId × Location). is_joined c.args.actor c.args.live.now.actor e.0) (entries m) c.loop-place.place c.loop-place.joined _ past c.loop-place.invariant
