use Rattle.cdle_model.proofs.CoreForms.{row_of_form}
use Rattle.cdle_model.proofs.laws.found_form_makes_its_tree.Goals as goal

pub returns : goal.returns
returns c = record {
  makes = λ d t s e. (row_of_form d t s e).0;
  word = λ d t s e. (row_of_form d t s e).1;
}
