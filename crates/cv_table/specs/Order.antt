-- The order of identifiers: by application, which goes by node and number, and then by place.
use Rattle.std.specs.Prelude.{Bool, ◌==◌, ◌&&◌}
use Rattle.std.specs.Ordering.{nat_cmp, ordering_then}
use Rattle.std.specs.declared.cmp.Ordering.{Ordering}
use Rattle.cv_token.specs.declared.identifiers.AppId.{AppId}
use Rattle.cv_token.specs.declared.identifiers.ActorId.{ActorId}
use Rattle.cv_token.specs.declared.identifiers.ConnId.{ConnId}

abbrev pub app_cmp : AppId → AppId → Ordering
app_cmp a b = ordering_then (nat_cmp a.node b.node) (nat_cmp a.seq b.seq)

abbrev pub actor_cmp : ActorId → ActorId → Ordering
actor_cmp a b = ordering_then (app_cmp a.app b.app) (nat_cmp a.actor b.actor)

abbrev pub conn_cmp : ConnId → ConnId → Ordering
conn_cmp a b = ordering_then (app_cmp a.app b.app) (nat_cmp a.place b.place)

-- whether two identifiers are one
abbrev pub same_app : AppId → AppId → Bool
same_app a b = (a.node == b.node) && (a.seq == b.seq)

abbrev pub same_actor : ActorId → ActorId → Bool
same_actor a b = same_app a.app b.app && (a.actor == b.actor)

abbrev pub same_conn : ConnId → ConnId → Bool
same_conn a b = same_app a.app b.app && (a.place == b.place)
