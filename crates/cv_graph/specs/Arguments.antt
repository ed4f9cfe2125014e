-- The arguments of an actor, and what may be wrong with them.
use Rattle.std.specs.Prelude.{ℕ, List, [], ◌∷◌, ◌++◌, slice_get, Option, Some, None, option_map}
use Rattle.std.specs.Option.{option_or}
use Rattle.cv_token.specs.declared.token.Token.{Token}
use Rattle.cv_expand.specs.declared.flat.Given.{Given}
use Rattle.cv_expand.specs.declared.flat.Given.TheVariants as written
use Rattle.cv_expand.specs.declared.flat.Argument.{Argument}
use Rattle.cv_expand.specs.declared.flat.Actor.{Actor}
use Rattle.cv_kinds.specs.declared.arguments.Argument.{Argument as KindArgument}
use Rattle.cv_kinds.specs.declared.arguments.ArgFault.{ArgFault}
use Rattle.cv_kinds.specs.declared.arguments.ArgFault.TheVariants as wrong
use Rattle.cv_kinds.specs.declared.arguments.Given.{Given as KindGiven}
use Rattle.cv_kinds.specs.declared.arguments.Given.TheVariants as given
use Rattle.cv_kinds.specs.declared.kind.Kind.{Kind}
use Rattle.cv_kinds.specs.Arguments.{arguments_of, fault_of}
use Rattle.cv_kinds.specs.Table.{line_of}
use Rattle.cv_graph.specs.declared.fault.GraphFault.{GraphFault}
use Rattle.cv_graph.specs.declared.fault.GraphFault.TheVariants as faults
use Rattle.cv_graph.specs.Values.{literal_token}

-- what a value is to a kind: the token of a literal, or a fraction
abbrev pub value_given : Given → Option KindGiven
value_given (written.Literal l) = option_map (λ t. given.Token t) (literal_token l)
value_given (written.Fraction digits) = Some (given.Fraction digits)

abbrev pub argument_with : Argument → Option KindGiven → List KindArgument
argument_with a None = []
argument_with a (Some v) = record { name = a.name.text; value = v } ∷ []

-- the arguments as a kind is given them
abbrev pub given_of : List Argument → List KindArgument
given_of [] = []
given_of (a ∷ args) = argument_with a (value_given a.given) ++ given_of args

abbrev pub unless_given : ℕ → Option KindGiven → Option GraphFault
unless_given at None = Some (faults.BadArg at)
unless_given at (Some v) = None

-- a literal without a token; each literal whose numbers have 64 bits has one
abbrev pub tokenless : List Argument → Option GraphFault
tokenless [] = None
tokenless (a ∷ args) = option_or (unless_given a.name.at (value_given a.given)) (tokenless args)

abbrev pub place_or : ℕ → Option Argument → ℕ
place_or at None = at
place_or at (Some a) = a.name.at

-- the place of the argument of that number
abbrev pub argument_place : Actor → ℕ → ℕ
argument_place a number = place_or a.at (slice_get a.args number)

-- a fault stands at the argument's name, and that of a missing argument at the declaration
abbrev pub placed : Actor → ArgFault → GraphFault
placed a (wrong.Fraction number) = faults.Fraction (argument_place a number)
placed a (wrong.BadArg number) = faults.BadArg (argument_place a number)
placed a wrong.Missing = faults.BadArg a.at
placed a wrong.OutOfMemory = faults.OutOfMemory

-- what is wrong with the arguments for a kind
abbrev pub args_fault : Kind → Actor → Option GraphFault
args_fault k a = option_or (tokenless a.args) (option_map (placed a) (fault_of (line_of k).params (given_of a.args)))

-- the arguments in the order of the kind's row
abbrev pub args_for : Kind → Actor → List Token
args_for k a = arguments_of (line_of k).params (given_of a.args)
