-- The faults of a script's parts as faults of the script.
use Rattle.mb_lexer.specs.declared.fault.LexFault.{LexFault}
use Rattle.mb_lexer.specs.declared.fault.LexFault.TheVariants as lexical
use Rattle.mb_parse_stmt.specs.declared.parser.ParseFault.{ParseFault}
use Rattle.mb_parse_stmt.specs.declared.parser.ParseFault.TheVariants as shape
use Rattle.mb_scope.specs.declared.fault.NameFault.{NameFault}
use Rattle.mb_scope.specs.declared.fault.NameFault.TheVariants as static
use Rattle.mb_base.specs.declared.value.Side.{Side}
use Rattle.mb_cli.specs.declared.status.ScriptKind.TheVariants.{Utf8, Token, Number, Shape, Deep, Twice, Stray, BadTarget}
use Rattle.mb_cli.specs.declared.refusal.Refusal.{Refusal}
use Rattle.mb_cli.specs.declared.refusal.Refusal.TheVariants as refusal
use Rattle.mb_cli.specs.declared.tree.TreeFault.{TreeFault}
use Rattle.mb_cli.specs.declared.tree.TreeFault.TheVariants.{Bad, NoMemory}

abbrev pub of_lexer : LexFault → TreeFault
of_lexer (lexical.Utf8 at) = Bad (Utf8 at)
of_lexer (lexical.Token at) = Bad (Token at)
of_lexer (lexical.Number at) = Bad (Number at)
of_lexer lexical.NoMemory = NoMemory

abbrev pub of_parser : ParseFault → TreeFault
of_parser shape.Shape = Bad Shape
of_parser shape.Deep = Bad Deep
of_parser shape.NoMemory = NoMemory

abbrev pub of_rules : NameFault → TreeFault
of_rules (static.Twice node) = Bad (Twice node)
of_rules (static.Stray node) = Bad (Stray node)
of_rules (static.BadTarget node) = Bad (BadTarget node)
of_rules static.NoMemory = NoMemory

-- the refusal of a script of that side
abbrev pub refusal_of : Side → TreeFault → Refusal
refusal_of side (Bad kind) = refusal.Script side kind
refusal_of side NoMemory = refusal.NoMemory
