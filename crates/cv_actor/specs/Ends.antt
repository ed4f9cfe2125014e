-- What is told of the ends of a connection.
use Rattle.cv_protocol.specs.Rows.{Spot}
use Rattle.cv_actor.specs.declared.finding.Spot.{Spot as Found}

-- where the reader stands, without its port
abbrev pub spot_in : Spot → Found
spot_in s = record { out = s.out; number = s.number; reader = s.reader }
