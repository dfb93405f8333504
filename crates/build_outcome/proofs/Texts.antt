-- The lines of the reports, as they are formatted.
use Rattle.std.proofs.Common.{◌≡◌, ℕ, List, ◌++◌, append_assoc}
use Rattle.std.specs.Prelude.{codes}
use Rattle.std.specs.Fmt.{decimal}
use Rattle.cdle_model.specs.Report.{line}

pub refused_text : (report item p path w why : List ℕ) → report ≡ codes "refused " ++ (item ++ (codes " at " ++ (p ++ (codes ": " ++ (w ++ codes "\n"))))) → p ≡ path → w ≡ why
    → report ≡ line (codes "refused " ++ (item ++ (codes " at " ++ (path ++ (codes ": " ++ why)))))
refused_text report item p path w why e f g = simp append_assoc (rw (f, g) at e)

pub duplicate_text : (report item : List ℕ) → report ≡ codes "refused " ++ (item ++ codes ": duplicate\n") → report ≡ line (codes "refused " ++ (item ++ codes ": duplicate"))
duplicate_text report item e = simp append_assoc e

pub malformed_text : (report file : List ℕ) (l at c column : ℕ) (w what : List ℕ)
    → report ≡ file ++ (codes ":" ++ (decimal l ++ (codes ":" ++ (decimal c ++ (codes ": malformed: " ++ (w ++ codes "\n")))))) → l ≡ at → c ≡ column → w ≡ what
    → report ≡ line (file ++ (codes ":" ++ (decimal at ++ (codes ":" ++ (decimal column ++ (codes ": malformed: " ++ what))))))
malformed_text report file l at c column w what e p q r = simp append_assoc (rw (p, q, r) at e)

pub built_text : (report name : List ℕ) (modules items : ℕ) → report ≡ codes "built " ++ (name ++ (codes " modules " ++ (decimal modules ++ (codes " items " ++ (decimal items ++ codes "\n")))))
    → report ≡ line (codes "built " ++ (name ++ (codes " modules " ++ (decimal modules ++ (codes " items " ++ decimal items)))))
built_text report name modules items e = simp append_assoc e

pub read_back_text : (report file : List ℕ) (at : ℕ) (w r wrote read : List ℕ)
    → report ≡ codes "read back " ++ (file ++ (codes " differs at byte " ++ (decimal at ++ (codes ": wrote " ++ (w ++ (codes ", read " ++ (r ++ codes "\n"))))))) → w ≡ wrote → r ≡ read
    → report ≡ line (codes "read back " ++ (file ++ (codes " differs at byte " ++ (decimal at ++ (codes ": wrote " ++ (wrote ++ (codes ", read " ++ read)))))))
read_back_text report file at w r wrote read e f g = simp append_assoc (rw (f, g) at e)
