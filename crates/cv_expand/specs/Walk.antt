-- The walk over a script: what it meets, in order.
use Rattle.std.specs.Prelude.{ℕ, zero, suc, ◌+◌, ◌==◌, negsuc, Bool, true, false, not, ◌&&◌, ◌||◌, if◌then◌else◌, is_none, List, [], ◌∷◌, ◌++◌, map, length, Option, Some, None, codes}
use Rattle.cv_token.specs.declared.pairs.Pair.{Pair}
use Rattle.cv_readers.specs.declared.name.Name.{Name}
use Rattle.cv_syntax.specs.declared.tree.Literal.TheVariants as literals
use Rattle.cv_syntax.specs.declared.tree.Value.{Value}
use Rattle.cv_syntax.specs.declared.tree.Value.TheVariants as values
use Rattle.cv_syntax.specs.declared.tree.Arg.{Arg}
use Rattle.cv_syntax.specs.declared.tree.KindName.{KindName}
use Rattle.cv_syntax.specs.declared.tree.KindName.TheVariants as kinds
use Rattle.cv_syntax.specs.declared.tree.Declare.{Declare}
use Rattle.cv_syntax.specs.declared.tree.JoinSource.{JoinSource}
use Rattle.cv_syntax.specs.declared.tree.JoinSource.TheVariants as sources
use Rattle.cv_syntax.specs.declared.tree.Aim.{Aim}
use Rattle.cv_syntax.specs.declared.tree.Join.{Join}
use Rattle.cv_syntax.specs.declared.tree.Statement.{Statement}
use Rattle.cv_syntax.specs.declared.tree.Statement.TheVariants as statements
use Rattle.cv_syntax.specs.declared.tree.Component.{Component}
use Rattle.cv_expand.specs.declared.fault.ExpandFault.{ExpandFault}
use Rattle.cv_expand.specs.declared.fault.ExpandFault.TheVariants as faults
use Rattle.cv_expand.specs.declared.flat.Given.{Given}
use Rattle.cv_expand.specs.declared.flat.Given.TheVariants as givens
use Rattle.cv_expand.specs.declared.flat.Argument.{Argument}
use Rattle.cv_expand.specs.declared.flat.Actor.{Actor}
use Rattle.cv_expand.specs.declared.flat.Instance.{Instance}
use Rattle.cv_expand.specs.declared.flat.Origin.{Origin}
use Rattle.cv_expand.specs.declared.flat.Origin.TheVariants as origins
use Rattle.cv_expand.specs.declared.flat.Feed.{Feed}
use Rattle.cv_expand.specs.declared.path.Step.{Step}
use Rattle.cv_expand.specs.declared.path.Step.TheVariants as steps
use Rattle.cv_expand.specs.declared.setting.World.{World}
use Rattle.cv_expand.specs.declared.setting.Spot.{Spot}
use Rattle.cv_expand.specs.declared.setting.Seen.{Seen}
use Rattle.cv_expand.specs.Lookup.{first_of, only_if, lookup, binds, has}
use Rattle.cv_expand.specs.Components.{component_of}

-- what the walk meets: a fault, an actor, an instance, or a join to one target
pub data Event : Type 0 where
  bad : ExpandFault → Event
  actor_met : Actor → Event
  instance_met : Instance → Event
  feed_met : Feed → Event

-- what a body gives at a spot
abbrev pub Inner : Type 0
Inner = Spot → List Statement → List Event

-- ---- values

-- what a name stands for: the argument of that name, else the constant
abbrev pub given_named : World → Spot → List ℕ → Option Given
given_named w s name = first_of (lookup s.values name) (lookup w.defines name)

abbrev pub given_of : World → Spot → Value → Option Given
given_of w s (values.Literal literal) = Some (givens.Literal literal)
given_of w s (values.Fraction digits) = Some (givens.Fraction digits)
given_of w s (values.Name name) = given_named w s name.text

-- an argument, where its value stands for something
abbrev pub argument_with : Arg → Option Given → List Argument
argument_with a None = []
argument_with a (Some given) = record { name = a.name; given = given } ∷ []

abbrev pub arguments : World → Spot → List Arg → List Argument
arguments w s [] = []
arguments w s (a ∷ args) = argument_with a (given_of w s a.value) ++ arguments w s args

-- the values that a body knows by the arguments that its component is given
abbrev pub values_of : List Argument → List (Pair Given)
values_of args = map (λ a. record { key = a.name.text; value = a.given }) args

-- ---- faults of a declaration

-- the names of a head with their places
abbrev pub places_of : List Name → List (Pair ℕ)
places_of names = map (λ n. record { key = n.text; value = n.at }) names

-- whether a component has an argument of this name; a kind is asked later
abbrev pub takes : Option (List (Pair ℕ)) → List ℕ → Bool
takes None name = true
takes (Some places) name = binds places name

-- an argument that is lacking, or whose value is an unknown name
abbrev pub argument_fault : World → Spot → Option (List (Pair ℕ)) → Arg → List ExpandFault
argument_fault w s places a = only_if (not (takes places a.name.text) || is_none (given_of w s a.value)) (faults.NoArg a.name.at)

abbrev pub argument_faults : World → Spot → Option (List (Pair ℕ)) → List Arg → List ExpandFault
argument_faults w s places [] = []
argument_faults w s places (a ∷ args) = argument_fault w s places a ++ argument_faults w s places args

-- each name that stands among those before it
abbrev pub repeat_faults : List (Pair ℕ) → List Name → List ExpandFault
repeat_faults before [] = []
repeat_faults before (n ∷ names) =
    only_if (binds before n.text) (faults.DoubleName n.at) ++ repeat_faults (before ++ record { key = n.text; value = n.at } ∷ []) names

abbrev pub arg_names : List Arg → List Name
arg_names args = map (λ a. a.name) args

-- a name that was declared before in the body, or an argument that is repeated
abbrev pub declared_faults : Seen → Declare → List ExpandFault
declared_faults seen d = only_if (has seen.names d.name.text) (faults.DoubleName d.name.at) ++ repeat_faults [] (arg_names d.args)

abbrev pub count_faults : Declare → Component → List ExpandFault
count_faults d c = only_if (not (length d.args == length c.args)) (faults.ArgCount d.name.at)

abbrev pub bads : List ExpandFault → List Event
bads fs = map bad fs

-- ---- declarations

-- the path of what is declared under a name
abbrev pub path_below : Spot → List ℕ → List Step
path_below s name = s.path ++ steps.Name name ∷ []

abbrev pub actor_at : World → Spot → Declare → List ℕ → Actor
actor_at w s d kind = record { path = path_below s d.name.text; kind = kind; args = arguments w s d.args; at = d.name.at }

abbrev pub instance_at : Spot → Declare → List ℕ → Component → Instance
instance_at s d name c =
    record { path = path_below s d.name.text; component = name; inports = c.inports; outports = c.outports; at = d.name.at }

-- the body of a component that is declared here with these arguments
abbrev pub inside_with : Spot → Declare → List ℕ → List Argument → Spot
inside_with s d name args = record { opened = s.opened ++ name ∷ []; path = path_below s d.name.text; values = values_of args }

abbrev pub inside : World → Spot → Declare → List ℕ → Spot
inside w s d name = inside_with s d name (arguments w s d.args)

-- an instance of a component that is not open here
abbrev pub instance_events : Inner → World → Spot → Declare → List ℕ → Component → List Event
instance_events inner w s d name c =
    bads (count_faults d c ++ argument_faults w s (Some (places_of c.args)) d.args) ++ (instance_met (instance_at s d name c) ∷ inner (inside w s d name) c.body)

abbrev pub component_events : Inner → World → Spot → Declare → List ℕ → Option Component → List Event
component_events inner w s d name None = bad (faults.NoComponent d.name.at) ∷ []
component_events inner w s d name (Some c) =
    if has s.opened name then bad (faults.Recursion d.name.at) ∷ [] else instance_events inner w s d name c

-- the name of a kind
abbrev pub dotted : List ℕ → List ℕ → List ℕ
dotted first second = first ++ codes "." ++ second

abbrev pub kind_events : Inner → World → Spot → Declare → KindName → List Event
kind_events inner w s d (kinds.Dotted first second) =
    bads (argument_faults w s None d.args) ++ actor_met (actor_at w s d (dotted first second)) ∷ []
kind_events inner w s d (kinds.Plain name) = component_events inner w s d name (component_of w.components name)

abbrev pub declare_events : Inner → World → Spot → Seen → Declare → List Event
declare_events inner w s seen d = bads (declared_faults seen d) ++ kind_events inner w s d d.kind

-- ---- joins

abbrev pub constant_kind : List ℕ
constant_kind = codes "std.Constant"

abbrev pub constant_port : List ℕ
constant_port = codes "token"

-- the constant that a value as a source makes: `#k`, with data=VALUE and n=-1
abbrev pub constant_step : Seen → Step
constant_step seen = steps.Constant (seen.constants + 1)

abbrev pub constant_args : Join → Given → List Argument
constant_args j given =
    record { name = record { text = codes "data"; at = j.at }; given = given }
    ∷ record { name = record { text = codes "n"; at = j.at }; given = givens.Literal (literals.Int (negsuc 0)) }
    ∷ []

abbrev pub constant_at : Spot → Seen → Join → Given → Actor
constant_at s seen j given = record { path = s.path ++ constant_step seen ∷ []; kind = constant_kind; args = constant_args j given; at = j.at }

-- the value of a source that is one; an unknown name has none
abbrev pub source_given : World → Spot → JoinSource → Option Given
source_given w s (sources.Literal literal) = Some (givens.Literal literal)
source_given w s (sources.Name name) = given_named w s name
source_given w s sources.Voidport = None
source_given w s (sources.Own port) = None
source_given w s (sources.Port actor port) = None

abbrev pub is_value : JoinSource → Bool
is_value (sources.Literal literal) = true
is_value (sources.Name name) = true
is_value sources.Voidport = false
is_value (sources.Own port) = false
is_value (sources.Port actor port) = false

abbrev pub source_faults : World → Spot → Join → List ExpandFault
source_faults w s j = only_if (is_value j.source && is_none (source_given w s j.source)) (faults.NoArg j.at)

abbrev pub constant_events : Spot → Seen → Join → Option Given → List Event
constant_events s seen j None = []
constant_events s seen j (Some given) = actor_met (constant_at s seen j given) ∷ []

abbrev pub origin_of : Seen → JoinSource → Origin
origin_of seen sources.Voidport = origins.Void
origin_of seen (sources.Own port) = origins.Own port
origin_of seen (sources.Port actor port) = origins.Port (steps.Name actor) port
origin_of seen (sources.Name name) = origins.Port (constant_step seen) constant_port
origin_of seen (sources.Literal literal) = origins.Port (constant_step seen) constant_port

abbrev pub feed_at : Spot → Seen → Join → Aim → Feed
feed_at s seen j aim =
    record { body = s.path; origin = origin_of seen j.source; at = j.at; target = aim.target; target_at = aim.at }

abbrev pub feed_events : Spot → Seen → Join → List Aim → List Event
feed_events s seen j aims = map (λ aim. feed_met (feed_at s seen j aim)) aims

abbrev pub join_events : World → Spot → Seen → Join → List Event
join_events w s seen j =
    bads (source_faults w s j) ++ (constant_events s seen j (source_given w s j.source) ++ feed_events s seen j j.targets)

-- ---- bodies

abbrev pub statement_events : Inner → World → Spot → Seen → Statement → List Event
statement_events inner w s seen (statements.Declare d) = declare_events inner w s seen d
statement_events inner w s seen (statements.Join j) = join_events w s seen j

-- the names that are declared so far, and how many joins from a value there were
abbrev pub seen_with : Seen → Statement → Seen
seen_with seen (statements.Declare d) = record { names = seen.names ++ d.name.text ∷ []; constants = seen.constants }
seen_with seen (statements.Join j) = record { names = seen.names; constants = if is_value j.source then seen.constants + 1 else seen.constants }

abbrev pub nothing_seen : Seen
nothing_seen = record { names = []; constants = 0 }

abbrev pub body_events : Inner → World → Spot → Seen → List Statement → List Event
body_events inner w s seen [] = []
body_events inner w s seen (x ∷ body) = statement_events inner w s seen x ++ body_events inner w s (seen_with seen x) body

-- how many components are not open
abbrev pub closed : List Component → List (List ℕ) → ℕ
closed [] opened = 0
closed (c ∷ cs) opened = (if has opened c.name.text then 0 else 1) + closed cs opened

-- so many components deep
unfoldable pub walk_at : World → ℕ → Inner
walk_at w zero s body = []
walk_at w (suc n) s body = body_events (walk_at w n) w s nothing_seen body

abbrev pub root_spot : Spot
root_spot = record { opened = []; path = []; values = [] }

-- what a body gives: its statements' events in order, where each instance of a component that is not open is walked in its place
unfoldable pub walk : World → Inner
walk w s body = walk_at w (suc (closed w.components s.opened)) s body
