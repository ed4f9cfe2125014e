-- The fault of a script: its cause, and its place as line and column.
use Rattle.std.specs.Prelude.{◌≡◌, ℕ, ◌+◌, ◌==◌, Bool, not, List, length, take, reverse, Option, Some, None, Result, Ok, Err, codes}
use Rattle.std.specs.List.{prefix_len, count_by}
use Rattle.std.specs.Str.{IsUtf8}
use Rattle.cv_expand.specs.declared.fault.ExpandFault.{ExpandFault}
use Rattle.cv_expand.specs.declared.fault.ExpandFault.TheVariants as expanding
use Rattle.cv_expand.specs.declared.flat.Parts.{Parts}
use Rattle.cv_expand.specs.Meaning.{meaning}
use Rattle.cv_graph.specs.declared.fault.GraphFault.{GraphFault}
use Rattle.cv_graph.specs.declared.fault.GraphFault.TheVariants as joining
use Rattle.cv_graph.specs.Checks.{checks, IsFirst}
use Rattle.cv_kinds.specs.Net.{Net}
use Rattle.cv_lex.specs.declared.lexeme.Lexeme.{Lexeme}
use Rattle.cv_lex.specs.declared.lexeme.LexFault.{LexFault}
use Rattle.cv_lex.specs.declared.lexeme.LexFault.TheVariants as lexing
use Rattle.cv_lex.specs.Characters.{line_feed}
use Rattle.cv_lex.specs.Faults.{HasFault as HasLexFault}
use Rattle.cv_lex.specs.Spelling.{SpellsLexemes}
use Rattle.cv_syntax.specs.declared.fault.ParseFault.{ParseFault}
use Rattle.cv_syntax.specs.declared.fault.ParseFault.TheVariants as parsing
use Rattle.cv_syntax.specs.declared.tree.Item.{Item}
use Rattle.cv_syntax.specs.declared.tree.Script.{Script}
use Rattle.cv_syntax.specs.Grammar.{SpellsTree, HasFault as HasParseFault}
use Rattle.cv_syntax.specs.Parsing.{words_of}
use Rattle.cv_deploy.specs.declared.fault.Code.{Code}
use Rattle.cv_deploy.specs.declared.fault.Code.TheVariants as code
use Rattle.cv_deploy.specs.declared.fault.Fault.{Fault}
use Rattle.cv_deploy.specs.declared.fault.NoNetwork.{NoNetwork}
use Rattle.cv_deploy.specs.declared.fault.NoNetwork.TheVariants as refusal
use Rattle.cv_deploy.specs.Meaning.{first_word, IsWhole, StandsFor}

-- ---- places

abbrev pub is_feed : ℕ → Bool
is_feed b = b == line_feed

-- lines count from 1: one more than the line feeds before the place
abbrev pub line_at : List ℕ → ℕ → ℕ
line_at bytes at = 1 + count_by is_feed (take at bytes)

-- columns count bytes, from 1: one more than the bytes between the last line feed and the place
abbrev pub column_at : List ℕ → ℕ → ℕ
column_at bytes at = 1 + prefix_len (λ b. not (is_feed b)) (reverse (take at bytes))

-- the fault stands at that byte
abbrev pub StandsAt : List ℕ → ℕ → Fault → Type 0
StandsAt bytes at fault = (fault.line ≡ line_at bytes at) × (fault.col ≡ column_at bytes at)

-- ---- scripts

-- the bytes are UTF-8, and their lexemes spell the script
abbrev pub SpellsScript : List ℕ → Script → Type 0
SpellsScript bytes script = IsUtf8 bytes × ((found : List Lexeme) × SpellsLexemes 0 bytes found × SpellsTree (words_of bytes found) script)

-- the bytes spell a script that stands for the network
abbrev pub Means : List ℕ → Net → Type 0
Means bytes net = (script : Script) × SpellsScript bytes script × StandsFor script.items net

-- ---- causes

-- a fault of the lexemes, which makes the bytes' first bad place
abbrev pub FailsToLex : List ℕ → (ℕ → LexFault) → Fault → Type 0
FailsToLex bytes cause fault = IsUtf8 bytes × ((at : ℕ) × HasLexFault bytes (cause at) × StandsAt bytes at fault)

-- the bytes spell lexemes, and these have a fault of the grammar
abbrev pub FailsToParse : List ℕ → (ℕ → ParseFault) → Fault → Type 0
FailsToParse bytes cause fault =
    IsUtf8 bytes × ((found : List Lexeme) × (at : ℕ) × SpellsLexemes 0 bytes found × HasParseFault (length bytes) (words_of bytes found) (cause at) × StandsAt bytes at fault)

-- a code, and the place at which it stands
pub record Said : Type 0 where
  pub code : Code
  pub at : ℕ

abbrev pub said : Code → ℕ → Option Said
said c at = Some (record { code = c; at = at })

-- what a fault of the walk says; want of memory says nothing
abbrev pub expand_said : ExpandFault → Option Said
expand_said (expanding.NoComponent at) = said code.NoComponent at
expand_said (expanding.Recursion at) = said code.Recursion at
expand_said (expanding.ArgCount at) = said code.ArgCount at
expand_said (expanding.NoArg at) = said code.NoArg at
expand_said (expanding.DoubleName at) = said code.DoubleName at
expand_said (expanding.TooMany at) = said code.TooMany at
expand_said expanding.OutOfMemory = None

-- what a fault of kinds, arguments and joins says
abbrev pub graph_said : GraphFault → Option Said
graph_said (joining.NoKind at) = said code.NoKind at
graph_said (joining.Fraction at) = said code.Fraction at
graph_said (joining.BadArg at) = said code.BadArg at
graph_said (joining.NoPort at) = said code.NoPort at
graph_said (joining.FedTwice at) = said code.FedTwice at
graph_said (joining.Unfed at) = said code.Unfed at
graph_said (joining.BatchOverQueue at) = said code.BatchOverQueue at
graph_said joining.OutOfMemory = None

-- the first fault of a script is of its walk, or else of its parts; where there is none, the first rule or apply is one
pub data FaultOf (script : List Item) (s : Said) : Type 0 where
  of_walk : (e : ExpandFault) → meaning script ≡ Err e → expand_said e ≡ Some s → FaultOf script s
  of_parts : (parts : Parts) (e : GraphFault) → meaning script ≡ Ok parts → IsFirst parts (checks parts) e → graph_said e ≡ Some s → FaultOf script s
  of_rules : (parts : Parts) (at : ℕ) → IsWhole script parts → first_word script ≡ Some at → said code.Unbuilt at ≡ Some s → FaultOf script s

-- the script has this fault, at its line and column
abbrev pub HasScriptFault : List ℕ → List Item → Fault → Type 0
HasScriptFault bytes script fault = (at : ℕ) × FaultOf script (record { code = fault.code; at = at }) × StandsAt bytes at fault

-- the bytes spell a script that has the fault
abbrev pub SpellsFault : List ℕ → Fault → Type 0
SpellsFault bytes fault = (script : Script) × SpellsScript bytes script × HasScriptFault bytes script.items fault

abbrev pub IsAtFirst : Fault → Type 0
IsAtFirst fault = (fault.line ≡ 1) × (fault.col ≡ 1)

-- what each code says, and where it stands
abbrev pub HasCode : List ℕ → Fault → Code → Type 0
HasCode bytes fault code.NotUtf8 = (IsUtf8 bytes → ⊥) × IsAtFirst fault
HasCode bytes fault code.BadChar = FailsToLex bytes lexing.BadChar fault
HasCode bytes fault code.OpenText = FailsToLex bytes lexing.OpenText fault
HasCode bytes fault code.OpenComment = FailsToLex bytes lexing.OpenComment fault
HasCode bytes fault code.WideNumber = FailsToLex bytes lexing.WideNumber fault
HasCode bytes fault code.BadEscape = FailsToLex bytes lexing.BadEscape fault
HasCode bytes fault code.LongName = FailsToLex bytes lexing.LongName fault
HasCode bytes fault code.Unexpected = FailsToParse bytes parsing.Unexpected fault
HasCode bytes fault code.TooDeep = FailsToParse bytes parsing.TooDeep fault
HasCode bytes fault code.NoComponent = SpellsFault bytes fault
HasCode bytes fault code.Recursion = SpellsFault bytes fault
HasCode bytes fault code.ArgCount = SpellsFault bytes fault
HasCode bytes fault code.NoArg = SpellsFault bytes fault
HasCode bytes fault code.DoubleName = SpellsFault bytes fault
HasCode bytes fault code.TooMany = SpellsFault bytes fault
HasCode bytes fault code.NoKind = SpellsFault bytes fault
HasCode bytes fault code.Fraction = SpellsFault bytes fault
HasCode bytes fault code.BadArg = SpellsFault bytes fault
HasCode bytes fault code.NoPort = SpellsFault bytes fault
HasCode bytes fault code.FedTwice = SpellsFault bytes fault
HasCode bytes fault code.Unfed = SpellsFault bytes fault
HasCode bytes fault code.BatchOverQueue = SpellsFault bytes fault
HasCode bytes fault code.Unbuilt = SpellsFault bytes fault

-- the bytes have the fault
abbrev pub HasFault : List ℕ → Fault → Type 0
HasFault bytes fault = HasCode bytes fault fault.code

-- ---- answers

-- what was answered is this; want of memory may come at any time
abbrev pub Gives : {X : Type 0} → Result X NoNetwork → X → Type 0
Gives (Ok y) x = y ≡ x
Gives (Err (refusal.Script fault)) x = ⊥
Gives (Err refusal.OutOfMemory) x = Unit {0}

-- the fault was answered; want of memory may come at any time
abbrev pub Refuses : {X : Type 0} → Result X NoNetwork → Fault → Type 0
Refuses (Ok x) fault = ⊥
Refuses (Err (refusal.Script told)) fault = told ≡ fault
Refuses (Err refusal.OutOfMemory) fault = Unit {0}

-- the fault at the first byte with this code
abbrev pub first_fault : Code → Fault
first_fault c = record { line = 1; col = 1; code = c }

-- the fault that was answered is the bytes'; want of memory says nothing
abbrev pub IsCaused : List ℕ → NoNetwork → Type 0
IsCaused bytes (refusal.Script fault) = HasFault bytes fault
IsCaused bytes refusal.OutOfMemory = Unit {0}

-- the word that the program prints for a code
abbrev pub word_of : Code → List ℕ
word_of code.NotUtf8 = codes "NotUtf8"
word_of code.BadChar = codes "BadChar"
word_of code.OpenText = codes "OpenText"
word_of code.OpenComment = codes "OpenComment"
word_of code.WideNumber = codes "WideNumber"
word_of code.BadEscape = codes "BadEscape"
word_of code.LongName = codes "LongName"
word_of code.Unexpected = codes "Unexpected"
word_of code.TooDeep = codes "TooDeep"
word_of code.NoComponent = codes "NoComponent"
word_of code.Recursion = codes "Recursion"
word_of code.ArgCount = codes "ArgCount"
word_of code.NoArg = codes "NoArg"
word_of code.DoubleName = codes "DoubleName"
word_of code.TooMany = codes "TooMany"
word_of code.NoKind = codes "NoKind"
word_of code.Fraction = codes "Fraction"
word_of code.BadArg = codes "BadArg"
word_of code.NoPort = codes "NoPort"
word_of code.FedTwice = codes "FedTwice"
word_of code.Unfed = codes "Unfed"
word_of code.BatchOverQueue = codes "BatchOverQueue"
word_of code.Unbuilt = codes "Unbuilt"

-- a refusal that says this code at this place
abbrev pub SaysAt : List ℕ → ℕ → Code → NoNetwork → Type 0
SaysAt bytes at c (refusal.Script fault) = StandsAt bytes at fault × (fault.code ≡ c)
SaysAt bytes at c refusal.OutOfMemory = ⊥

-- what a fault of the lexemes, or of the parser, becomes
abbrev pub LexedTo : List ℕ → LexFault → NoNetwork → Type 0
LexedTo bytes (lexing.BadChar at) r = SaysAt bytes at code.BadChar r
LexedTo bytes (lexing.OpenText at) r = SaysAt bytes at code.OpenText r
LexedTo bytes (lexing.OpenComment at) r = SaysAt bytes at code.OpenComment r
LexedTo bytes (lexing.WideNumber at) r = SaysAt bytes at code.WideNumber r
LexedTo bytes (lexing.BadEscape at) r = SaysAt bytes at code.BadEscape r
LexedTo bytes (lexing.LongName at) r = SaysAt bytes at code.LongName r
LexedTo bytes lexing.OutOfMemory r = r ≡ refusal.OutOfMemory

abbrev pub ParsedTo : List ℕ → ParseFault → NoNetwork → Type 0
ParsedTo bytes (parsing.Unexpected at) r = SaysAt bytes at code.Unexpected r
ParsedTo bytes (parsing.TooDeep at) r = SaysAt bytes at code.TooDeep r
ParsedTo bytes parsing.OutOfMemory r = r ≡ refusal.OutOfMemory

-- what is said becomes a refusal
abbrev pub SaidTo : List ℕ → Option Said → NoNetwork → Type 0
SaidTo bytes None r = r ≡ refusal.OutOfMemory
SaidTo bytes (Some s) r = SaysAt bytes s.at s.code r

-- the fault that was answered is the script's; want of memory says nothing
abbrev pub IsScriptFault : List ℕ → List Item → NoNetwork → Type 0
IsScriptFault bytes script (refusal.Script fault) = HasScriptFault bytes script fault
IsScriptFault bytes script refusal.OutOfMemory = Unit {0}
