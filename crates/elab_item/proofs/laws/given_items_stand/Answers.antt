use Rattle.elab_reduce.specs.Items.{env_of}
use Rattle.elab_model.proofs.GivenItems.{items-given}
use Rattle.elab_item.proofs.Stands.{answered, stand}
use Rattle.elab_item.proofs.laws.given_items_stand.Goals as goal

pub returns : goal.returns
returns c = record {
  stand = λ k g v is h d n ws j. stand k g v is h d n ws j;
  erase = λ k g v is h d n ws j. (items-given is n (env_of k) g v h d ws j).erase;
  answered = λ k g v is h d n j. answered is n (env_of k) (record { sound = g; derived = v; fit = h; differ = d }) j;
}
