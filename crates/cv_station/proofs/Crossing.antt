-- A station may cross to another thread.
use denote.Enum.Declared.{shape as variants}
use denote.Struct.Declared.{shape as fields}
use denote.Param.Send.{IsSend, enum_send, plain_send, recorded_send, struct_send, sendable}
use Rattle.std.proofs.Crossing.{crosses}
use Rattle.cv_token.specs.contracts.utf8.Text as text
use Rattle.cv_token.specs.contracts.identifiers.ActorId as actor_id
use Rattle.cv_token.specs.contracts.identifiers.ConnId as conn_id
use Rattle.cv_token.specs.contracts.identifiers.AppId as app_id
use Rattle.cv_kinds.specs.contracts.network.ActorSpec as actor_spec
use Rattle.cv_kinds.specs.contracts.network.Network as network
use Rattle.cv_queue.specs.contracts.out_port.OutPort as out_port
use Rattle.cv_rules.specs.contracts.attrs.Attrs as attrs
use Rattle.cv_rules.specs.contracts.attrs.NodeSpec as node_spec
use Rattle.cv_actor.specs.contracts.live.Live as live
use Rattle.sqlite_items.specs.contracts.boxed.Boxed as boxed
use Rattle.cv_token.specs.contracts.token.Token as token
use Rattle.cv_token.proofs.token.Token.TheLaws.TheKnot as knot
use Rattle.cv_protocol.specs.contracts.frame.Body as body
use Rattle.cv_protocol.specs.contracts.frame.Frame as frame
use Rattle.cv_protocol.specs.contracts.frame.Verdict as verdict
use Rattle.cv_protocol.specs.contracts.state.ActorState as actor_state
use Rattle.cv_protocol.specs.contracts.event.Entry as entry
use Rattle.cv_protocol.specs.contracts.event.Event as event
use Rattle.cv_protocol.specs.contracts.event.Journal as journal
use Rattle.cv_protocol.specs.contracts.moving.Application as application
use Rattle.cv_protocol.specs.contracts.moving.Frozen as frozen
use Rattle.cv_protocol.specs.contracts.moving.Judged as judged
use Rattle.cv_protocol.specs.contracts.moving.Location as location
use Rattle.cv_protocol.specs.contracts.state.Inlet as inlet
use Rattle.cv_protocol.proofs.Crossing.{frame_send, token_send, state_send}
use Rattle.cv_state.specs.contracts.known.Known as known
use Rattle.cv_state.specs.contracts.moves.Moves as moves
use Rattle.cv_state.specs.contracts.state.State as state
use Rattle.cv_node.specs.contracts.node.Node as node
use Rattle.http_server.proofs.log.Log.TheSendSync as logs
use Rattle.rtrb.proofs.end.End.TheSendSync as ends
use Rattle.cv_link.proofs.plan.Plan.TheSendSync as plans
use Rattle.cv_link.specs.contracts.ring.Rx as rx
use Rattle.cv_link.specs.contracts.ring.Tx as tx
use Rattle.cv_station.specs.contracts.station.Peer as peer
use Rattle.cv_station.specs.contracts.station.Station as station

app_send : IsSend app_id.the_row
app_send = search sendable depth 12

actor_send : IsSend actor_id.the_row
actor_send = search sendable depth 12

conn_send : IsSend conn_id.the_row
conn_send = search sendable depth 12

text_send : IsSend text.the_row
text_send = search (crosses, sendable) depth 60 fits 20000

attrs_send : IsSend attrs.the_row
attrs_send = search (text_send, crosses, sendable) depth 60 fits 20000

node_spec_send : IsSend node_spec.the_row
node_spec_send = search (attrs_send, crosses, sendable) depth 60 fits 20000

location_send : IsSend location.the_row
location_send = search sendable depth 20

judged_send : IsSend judged.the_row
judged_send = search sendable depth 40

frozen_send : IsSend frozen.the_row
frozen_send = search (state_send, crosses, sendable) depth 60 fits 20000

spec_send : IsSend actor_spec.the_row
spec_send = search (text_send, token_send, crosses, sendable) depth 60 fits 20000

network_send : IsSend network.the_row
network_send = search (spec_send, crosses, sendable) depth 60 fits 20000

application_send : IsSend application.the_row
application_send = search (text_send, network_send, crosses, sendable) depth 60 fits 20000

inlet_send : IsSend inlet.the_row
inlet_send = search (token_send, crosses, sendable) depth 60 fits 20000

out_send : IsSend out_port.the_row
out_send = search (token_send, crosses, sendable) depth 60 fits 20000

live_send : IsSend live.the_row
live_send = search (token_send, inlet_send, out_send, crosses, sendable) depth 60 fits 20000

known_send : IsSend known.the_row
known_send = search (attrs_send, application_send, app_send, actor_send, conn_send, crosses, sendable) depth 60 fits 20000

moves_send : IsSend moves.the_row
moves_send = search (frozen_send, judged_send, actor_send, crosses, sendable) depth 60 fits 20000

node_state_send : IsSend state.the_row
node_state_send = search (attrs_send, known_send, moves_send, live_send, location_send, actor_send, crosses, sendable) depth 60 fits 20000

attrs_field : IsSend (attrs.the_field).row
attrs_field = search (attrs_send, crosses, sendable) depth 60 fits 20000

text_field : IsSend (text.the_field).row
text_field = search (text_send, crosses, sendable) depth 60 fits 20000

net_field : IsSend (boxed.the_field network.the_row).row
net_field = search (network_send, crosses, sendable) depth 60 fits 20000

app_field : IsSend (app_id.the_field).row
app_field = search sendable depth 12

actor_field : IsSend (actor_id.the_field).row
actor_field = search sendable depth 12

conn_field : IsSend (conn_id.the_field).row
conn_field = search sendable depth 12

token_field : IsSend (token.the_field).row
token_field = search (crosses, knot.crosses, sendable) depth 60 fits 20000

state_field : IsSend (boxed.the_field actor_state.the_row).row
state_field = search (state_send, crosses, sendable) depth 60 fits 20000

verdict_field : IsSend (verdict.the_field).row
verdict_field = search sendable depth 14

body_field : IsSend (body.the_field).row
body_field = enum_send (variants body.the_type) (
  (conn_field, (actor_field, (plain_send _ _ _ _ _, (token_field, tt)))),
  (
    (conn_field, (actor_field, (plain_send _ _ _ _ _, tt))),
    (
      (conn_field, (actor_field, (plain_send _ _ _ _ _, tt))),
      (
        (actor_field, (plain_send _ _ _ _ _, (state_field, tt))),
        (
          (actor_field, (plain_send _ _ _ _ _, (verdict_field, tt))),
          (
            (actor_field, (plain_send _ _ _ _ _, tt)),
            (
              (actor_field, (plain_send _ _ _ _ _, (plain_send _ _ _ _ _, tt))),
              ((app_field, tt), tt),
            ),
          ),
        ),
      ),
    ),
  ),
)

frame_field : IsSend (frame.the_field).row
frame_field = struct_send (fields frame.the_type) (plain_send _ _ _ _ _, (plain_send _ _ _ _ _, (plain_send _ _ _ _ _, (body_field, tt))))

event_field : IsSend (event.the_field).row
event_field = enum_send (variants event.the_type) (
  (plain_send _ _ _ _ _, (attrs_field, tt)),
  (
    (text_field, (net_field, tt)),
    (
      (plain_send _ _ _ _ _, tt),
      (
        (actor_field, (plain_send _ _ _ _ _, tt)),
        (
          (actor_field, (plain_send _ _ _ _ _, tt)),
          (
            (conn_field, tt),
            (
              (conn_field, tt),
              (
                (conn_field, tt),
                (
                  (actor_field, (plain_send _ _ _ _ _, tt)),
                  (
                    (actor_field, tt),
                    (
                      (actor_field, tt),
                      (
                        (actor_field, (plain_send _ _ _ _ _, (plain_send _ _ _ _ _, tt))),
                        (
                          (app_field, tt),
                          (
                            (frame_field, tt),
                            ((frame_field, tt), tt),
                          ),
                        ),
                      ),
                    ),
                  ),
                ),
              ),
            ),
          ),
        ),
      ),
    ),
  ),
)

entry_send : IsSend entry.the_row
entry_send =
    recorded_send (entry.the_field).row _ _ (entry.the_type).to_one
    (struct_send (fields entry.the_type) (plain_send _ _ _ _ _, (event_field, tt)))

journal_send : IsSend journal.the_row
journal_send = search (attrs_send, entry_send, crosses, sendable) depth 60 fits 20000

journal_field : IsSend (journal.the_field).row
journal_field = search (attrs_send, entry_send, crosses, sendable) depth 60 fits 20000

node_send : IsSend node.the_row
node_send = search (node_state_send, journal_field, logs.the_send, crosses, sendable) depth 60 fits 20000

tx_field : IsSend (tx.the_field).row
tx_field = search (frame_send, ends.the_send, crosses, sendable) depth 60 fits 20000

rx_field : IsSend (rx.the_field).row
rx_field = search (frame_send, ends.the_send, plans.the_send, crosses, sendable) depth 60 fits 20000

peer_send : IsSend peer.the_row
peer_send = search (tx_field, rx_field, frame_send, crosses, sendable) depth 60 fits 20000

pub station_send : IsSend station.the_row
station_send = search (peer_send, node_send, crosses, sendable) depth 60 fits 20000
