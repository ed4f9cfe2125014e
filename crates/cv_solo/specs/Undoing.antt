-- What a firing did to a connection, taken back.
use Rattle.std.specs.Prelude.{◌-◌, if◌then◌else◌, List, length, take}
use Rattle.cv_token.specs.declared.token.Token.{Token}
use Rattle.cv_solo.specs.declared.solo.Change.{Change}
use Rattle.cv_solo.specs.declared.stream.Stream.{Stream}

abbrev pub without_last : List Token → List Token
without_last xs = take (length xs - 1) xs

abbrev pub undone : Change → Stream → Stream
undone c s = record { wrote = if c.gave then without_last s.wrote else s.wrote; took = s.took - c.taken }
