use Rattle.mb_cli.proofs.first_form.FirstForm.{first_form}
use Rattle.mb_cli.proofs.first_form.laws.scripts_of_the_first_form_have_a_tree.Goals as goal

pub returns : goal.returns
returns c = first_form
