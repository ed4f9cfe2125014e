-- A network as a token, whose text is the network's.
use Rattle.std.specs.Prelude.{ℕ, pos, List, [], ◌∷◌, map, slice_get, Option, Some, None, codes}
use Rattle.cv_token.specs.declared.token.Token.{Token}
use Rattle.cv_token.specs.declared.token.Token.TheVariants as token
use Rattle.cv_token.specs.Spelling.{spelling}
use Rattle.cv_kinds.specs.declared.network.ActorSpec.{ActorSpec}
use Rattle.cv_kinds.specs.declared.network.Connection.{Connection}
use Rattle.cv_kinds.specs.Net.{Net}
use Rattle.cv_kinds.specs.Table.{line_of}

-- a name as a text; null stands for none, which no port of a connection has
abbrev pub name_token : Option (List ℕ) → Token
name_token None = token.Null
name_token (Some name) = token.Text name

abbrev pub port_token : List (List ℕ) → ℕ → Token
port_token names number = name_token (slice_get names number)

abbrev pub outport_of : ℕ → Option ActorSpec → Token
outport_of number None = token.Null
outport_of number (Some a) = port_token (line_of a.kind).outports number

abbrev pub inport_of : ℕ → Option ActorSpec → Token
inport_of number None = token.Null
inport_of number (Some a) = port_token (line_of a.kind).inports number

-- the outport of a connection, by its name
abbrev pub outport_token : List ActorSpec → Connection → Token
outport_token actors j = outport_of j.out (slice_get actors j.from)

abbrev pub inport_token : List ActorSpec → Connection → Token
inport_token actors j = inport_of j.inp (slice_get actors j.to)

-- `[FROM,OUTPORT,TO,INPORT]`
abbrev pub connection_token : List ActorSpec → Connection → Token
connection_token actors j = token.List (token.Int (pos j.from) ∷ outport_token actors j ∷ token.Int (pos j.to) ∷ inport_token actors j ∷ [])

-- `[PATH,KIND,ARGUMENTS,null]`
abbrev pub actor_token : ActorSpec → Token
actor_token a = token.List (token.Text a.path ∷ token.Text (line_of a.kind).name ∷ token.List a.args ∷ token.Null ∷ [])

-- `{"actors":[..],"connections":[..]}`
abbrev pub network_token : Net → Token
network_token net =
    token.Dict (record { key = codes "actors"; value = token.List (map actor_token net.actors) }
    ∷ record { key = codes "connections"; value = token.List (map (connection_token net.actors) net.connections) }
    ∷ [])

-- the one text of a network
abbrev pub network_spelling : Net → List ℕ
network_spelling net = spelling (network_token net)
