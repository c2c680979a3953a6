use Rattle.mb_model.proofs.Engine.{exec-ending, leading-ending}
use Rattle.mb_model.proofs.laws.an_end_is_a_frame_below.Goals as goal

pub returns-clause-done : goal.returns-clause-done
returns-clause-done g c m h b p f = exec-ending m h b p f

pub returns-clause-free : goal.returns-clause-free
returns-clause-free g c h p = leading-ending h p
