-- Frames, and what travels in them, may cross to another thread.
use denote.Enum.Declared.{shape as variants}
use denote.Struct.Declared.{shape as fields}
use denote.Param.Send.{IsSend, enum_send, plain_send, recorded_send, struct_send, sendable}
use Rattle.std.proofs.Crossing.{crosses}
use Rattle.cv_kinds.specs.contracts.kind.Kind as kind
use Rattle.cv_kinds.specs.contracts.network.ActorSpec as actor_spec
use Rattle.cv_queue.specs.contracts.in_port.InPort as in_port
use Rattle.cv_queue.specs.contracts.out_port.OutPort as out_port
use Rattle.cv_queue.specs.contracts.reader.Reader as reader
use Rattle.cv_token.specs.contracts.token.Token as token
use Rattle.cv_token.proofs.token.Token.TheLaws.TheKnot as knot
use Rattle.cv_token.specs.contracts.identifiers.ActorId as actor_id
use Rattle.cv_token.specs.contracts.identifiers.ConnId as conn_id
use Rattle.sqlite_items.specs.contracts.boxed.Boxed as boxed
use Rattle.cv_token.specs.contracts.identifiers.AppId as app_id
use Rattle.cv_protocol.specs.contracts.frame.Body as body
use Rattle.cv_protocol.specs.contracts.frame.Frame as frame
use Rattle.cv_protocol.specs.contracts.frame.Verdict as verdict
use Rattle.cv_protocol.specs.contracts.state.ActorState as state
use Rattle.cv_protocol.specs.contracts.state.Hint as hint
use Rattle.cv_protocol.specs.contracts.state.Inlet as inlet

app_send : IsSend app_id.the_row
app_send = search sendable depth 12

actor_send : IsSend actor_id.the_row
actor_send = search sendable depth 12

conn_send : IsSend conn_id.the_row
conn_send = search sendable depth 12

pub token_send : IsSend token.the_row
token_send = search (crosses, knot.crosses, sendable) depth 60 fits 20000

kind_send : IsSend kind.the_row
kind_send = search sendable depth 60 fits 20000

spec_send : IsSend actor_spec.the_row
spec_send = search (kind_send, token_send, crosses, sendable) depth 60 fits 20000

reader_send : IsSend reader.the_row
reader_send = search sendable depth 20

in_send : IsSend in_port.the_row
in_send = search (token_send, crosses, sendable) depth 60 fits 20000

out_send : IsSend out_port.the_row
out_send = search (token_send, reader_send, crosses, sendable) depth 60 fits 20000

inlet_send : IsSend inlet.the_row
inlet_send = search (actor_send, conn_send, in_send, crosses, sendable) depth 60 fits 20000

hint_send : IsSend hint.the_row
hint_send = search (actor_send, sendable) depth 20

pub state_send : IsSend state.the_row
state_send = search (actor_send, spec_send, token_send, inlet_send, out_send, hint_send, crosses, sendable) depth 60 fits 20000

boxed_send : IsSend (boxed.the_row state.the_row)
boxed_send = search (state_send, crosses, sendable) depth 60 fits 20000

verdict_send : IsSend verdict.the_row
verdict_send = search sendable depth 14

app_field : IsSend (app_id.the_field).row
app_field = search sendable depth 12

actor_field : IsSend (actor_id.the_field).row
actor_field = search sendable depth 12

conn_field : IsSend (conn_id.the_field).row
conn_field = search sendable depth 12

token_field : IsSend (token.the_field).row
token_field = search (token_send, crosses, knot.crosses, sendable) depth 60 fits 20000

boxed_field : IsSend (boxed.the_field state.the_row).row
boxed_field = search (state_send, crosses, sendable) depth 60 fits 20000

verdict_field : IsSend (verdict.the_field).row
verdict_field = search sendable depth 14

body_field : IsSend (body.the_field).row
body_field = enum_send (variants body.the_type) (
  (conn_field, (actor_field, (plain_send _ _ _ _ _, (token_field, tt)))),
  (
    (conn_field, (actor_field, (plain_send _ _ _ _ _, tt))),
    (
      (conn_field, (actor_field, (plain_send _ _ _ _ _, tt))),
      (
        (actor_field, (plain_send _ _ _ _ _, (boxed_field, tt))),
        (
          (actor_field, (plain_send _ _ _ _ _, (verdict_field, tt))),
          (
            (actor_field, (plain_send _ _ _ _ _, tt)),
            (
              (actor_field, (plain_send _ _ _ _ _, (plain_send _ _ _ _ _, tt))),
              ((app_field, tt), tt),
            ),
          ),
        ),
      ),
    ),
  ),
)

pub body_send : IsSend body.the_row
body_send = recorded_send (body.the_field).row _ _ (body.the_type).to_one body_field

pub frame_send : IsSend frame.the_row
frame_send =
    recorded_send (frame.the_field).row _ _ (frame.the_type).to_one
    (struct_send (fields frame.the_type) (plain_send _ _ _ _ _, (plain_send _ _ _ _ _, (plain_send _ _ _ _ _, (body_field, tt)))))
