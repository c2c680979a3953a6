use Rattle.mb_text.proofs.Indices.{index_of-decimal, decimal-index_of, index_of-le}
use Rattle.mb_text.proofs.index.an_index_is_of_its_decimal_text.Goals as goal

pub returns : goal.returns
returns c = record { index = index_of-decimal; text = decimal-index_of; bound = index_of-le }
