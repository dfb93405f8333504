-- The code of what is known of items, by which proofs tell it apart.
use Rattle.std.specs.Prelude.{◌≡◌, ℕ, List, [], ◌∷◌, Bool, Option, get_or}
use Rattle.std.specs.Coded.{Coded, code_by, coded_ℕ, coded_bool, coded_list, coded_option, coded×}
use mathlib.Core.Path.{refl}
use Rattle.cdle_model.specs.Forms.{Written}
use Rattle.cdle_model.specs.ItemCode.{coded_written}
use Rattle.cdle_model.specs.declared.grammar.Mode.{Mode}
use Rattle.cdle_model.specs.declared.grammar.Mode.TheVariants.{Kept, Erased, OfType}
use Rattle.elab_tree.specs.Known.{Ctor, Data, Entry, Known}

abbrev number_of : Mode → ℕ
number_of Kept = 0
number_of Erased = 1
number_of OfType = 2

abbrev mode_at : ℕ → Mode
mode_at n = get_or (Kept ∷ Erased ∷ OfType ∷ []) n Kept

pub mode_back : (m : Mode) → mode_at (number_of m) ≡ m
mode_back Kept = refl
mode_back Erased = refl
mode_back OfType = refl

abbrev coded_mode : Coded Mode
coded_mode = code_by ℕ coded_ℕ number_of mode_at mode_back

abbrev coded_ctor : Coded Ctor
coded_ctor = code_by (ℕ × List Mode) (coded× coded_ℕ (coded_list coded_mode)) (λ c. (c.number, c.modes)) (λ p. record { number = p.0; modes = p.1 }) (λ _. refl)

abbrev coded_data : Coded Data
coded_data =
    code_by (ℕ × (List Ctor × (ℕ × (ℕ × (Bool × Option ℕ))))) (coded× coded_ℕ (coded× (coded_list coded_ctor) (coded× coded_ℕ (coded× coded_ℕ (coded× coded_bool (coded_option coded_ℕ))))))
    (λ d. (d.params, (d.ctors, (d.mu, (d.sigma, (d.indexed, d.case_item))))))
    (λ p. record { params = p.0; ctors = p.1.0; mu = p.1.1.0; sigma = p.1.1.1.0; indexed = p.1.1.1.1.0; case_item = p.1.1.1.1.1 }) (λ _. refl)

abbrev pub coded_entry : Coded Entry
coded_entry = code_by (Written × Option Data) (coded× coded_written (coded_option coded_data)) (λ e. (e.item, e.known)) (λ p. record { item = p.0; known = p.1 }) (λ _. refl)

abbrev pub coded_known : Coded Known
coded_known = code_by (List Entry × Bool) (coded× (coded_list coded_entry) coded_bool) (λ k. (k.entries, k.failed)) (λ p. record { entries = p.0; failed = p.1 }) (λ _. refl)
