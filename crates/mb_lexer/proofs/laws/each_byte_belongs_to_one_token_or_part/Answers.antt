use Rattle.mb_lexer.proofs.Tiling.{tiles}
use Rattle.mb_lexer.proofs.laws.each_byte_belongs_to_one_token_or_part.Goals as goal

pub returns : goal.returns
returns c = tiles
