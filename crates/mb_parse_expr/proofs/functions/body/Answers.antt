use Rattle.std.proofs.Common.{◌≡◌, ◌∙◌, Bool, Option, refl}
use Rattle.mb_grammar.specs.declared.role.Role.{Role}
use Rattle.mb_grammar.specs.declared.role.Role.TheVariants as r
use Rattle.mb_parse_expr.specs.declared.machine.Frame.{Frame}
use Rattle.mb_parse_expr.specs.machine.Machine.{value_move, body_move}
use Rattle.mb_parse_expr.proofs.functions.body.Goals as goal

no_brace : (top : Option Frame) (role : Role) (ahead : Bool) → (role ≡ r.OpenBrace → ⊥) → value_move top role ahead ≡ body_move top role ahead
no_brace top r.OpenBrace ahead h = absurd (h refl)
no_brace top _ ahead h = refl

pub returns-in_default : goal.returns-in_default
returns-in_default c = c.value.ensures ∙ no_brace c.args.top c.args.role c.args.ahead c.in_default.not-OpenBrace
