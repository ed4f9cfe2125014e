-- What a table ends as, once a value that it lent was written.
use Rattle.std.specs.Prelude.{Option}
use Rattle.std.specs.Borrow.{Fml, RattleType, MutBor, LendsIf}
use Rattle.std.specs.FinMap as map
use Rattle.cv_token.specs.declared.identifiers.ActorId.{ActorId}
use Rattle.cv_table.specs.Order.{actor_cmp}
use Rattle.cv_table.specs.Held.{Held}
use Rattle.cv_table.specs.contracts.actors.ActorTable.{the_row}

-- the actor has the last value that was written through r; where it has none the table stays
abbrev pub LendsValue : (V : RattleType) → MutBor (Held actor_cmp V.Denot) → ActorId → Option (MutBor V.Denot) → Fml
LendsValue V s actor r =
    LendsIf (the_row V) V s r (λ w. record { map = map.insert s.now.map actor w; spare = s.now.spare }) s.now
