-- The first fault of the grammar is where no text goes on.
use Rattle.std.proofs.Common.{◌≡◌, ℕ, Bool, true, false, cond, List, [], ◌∷◌, ◌++◌, Option, Some, None, Result, Err, refl, sym, ap, ◌∙◌, append_assoc}
use Rattle.cdle_model.specs.declared.grammar.CoreWanted.{CoreWanted}
use Rattle.cdle_model.specs.CoreTokens.{Token}
use Rattle.cdle_model.specs.CoreFaults.{Fault, BadText, TooDeep, passes_nesting}
use Rattle.cdle_model.specs.CoreNames.{Name}
use Rattle.cdle_model.specs.CoreWants.{Want, TheWord, MoreItems, ItemWord, ItemName, PartOf, FormOf, Binding, Closing, word_of, left_of, Wrong, NotBound, OtherClass, Step, goes_on, taken, act, ended, rest_or_fault, after, start, place, CanGoOn, NoneGoesOn, IsFirstBadPlace}
use Rattle.cdle_model.proofs.CoreEndings.{Fit, can_end, fit_after}
use Rattle.cdle_model.proofs.CoreFree.{text_whole, whole_text}

-- the want does not take what comes next, or the end
abbrev Stops : Want → List Token → Type 0
Stops (MoreItems known) [] = ⊥
Stops w [] = Unit {0}
Stops w (t ∷ ts) = act w t.1 ≡ None

-- the first place where the tokens go wrong, and what was wanted there
record IsBadText (end : ℕ) (ws : List Want) (ts : List Token) (at : ℕ) (what : CoreWanted) : Type 0 where
  front : List Token
  others : List Token
  parts : ts ≡ front ++ others
  want : Want
  wants : List Want
  wanted : after ws front ≡ Some (want ∷ wants)
  word : word_of want ≡ what
  here : at ≡ place end others
  stops : Stops want others

one_more : (end : ℕ) (w : Want) (ws : List Want) (t : Token) (ts : List Token) (next : List Want) (wrong : Option Wrong) (at : ℕ) (what : CoreWanted)
    → act w t.1 ≡ Some (next, wrong) → IsBadText end (next ++ ws) ts at what → IsBadText end (w ∷ ws) (t ∷ ts) at what
unfolding after
one_more end w ws t ts next wrong at what e b = record {
  front = t ∷ b.front;
  others = b.others;
  parts = ap (λ (r : List Token). t ∷ r) b.parts;
  want = b.want;
  wants = b.wants;
  wanted = rw e b.wanted;
  word = b.word;
  here = b.here;
  stops = b.stops;
}

step_stops : (w : Want) (t : Token) (ts : List Token) → act w t.1 ≡ None → Stops w (t ∷ ts)
step_stops (TheWord x y) t ts e = e
step_stops (MoreItems known) t ts e = e
step_stops (ItemWord known) t ts e = e
step_stops (ItemName known s) t ts e = e
step_stops (PartOf left scope c) t ts e = e
step_stops (FormOf left scope c) t ts e = e
step_stops (Binding left scope s ps) t ts e = e
step_stops (Closing left) t ts e = e

step_bad : (end : ℕ) (w : Want) (ws : List Want) (t : Token) (ts : List Token) (at : ℕ) (what : CoreWanted) (s : Step) → act w t.1 ≡ s
    → ((next : List Want) → rest_or_fault end next ts ≡ Err (BadText at what) → IsBadText end next ts at what)
    → goes_on t.0 (word_of w) s (λ front. rest_or_fault end (front ++ ws) ts) ≡ Err (BadText at what) → IsBadText end (w ∷ ws) (t ∷ ts) at what
unfolding after
step_bad end w ws t ts at what None e ih h = record { front = []; others = t ∷ ts; parts = refl; want = w; wants = ws; wanted = refl; word = cc; here = cc; stops = step_stops w t ts e }
step_bad end w ws t ts at what (Some (next, None)) e ih h = one_more end w ws t ts next None at what e (ih (next ++ ws) h)
step_bad end w ws t ts at what (Some (next, Some NotBound)) e ih h = absurd cc
step_bad end w ws t ts at what (Some (next, Some OtherClass)) e ih h = absurd cc

end_stops : (end : ℕ) (w : Want) (at : ℕ) (what : CoreWanted) → ended end w ≡ Err (BadText at what) → Stops w [] × (word_of w ≡ what) × (at ≡ end)
end_stops end (TheWord x y) at what e = (tt, cc, cc)
end_stops end (MoreItems known) at what e = absurd cc
end_stops end (ItemWord known) at what e = (tt, cc, cc)
end_stops end (ItemName known s) at what e = (tt, cc, cc)
end_stops end (PartOf left scope c) at what e = (tt, cc, cc)
end_stops end (FormOf left scope c) at what e = (tt, cc, cc)
end_stops end (Binding left scope s ps) at what e = (tt, cc, cc)
end_stops end (Closing left) at what e = (tt, cc, cc)

end_bad : (end : ℕ) (w : Want) (ws : List Want) (at : ℕ) (what : CoreWanted) → ended end w ≡ Err (BadText at what) → IsBadText end (w ∷ ws) [] at what
unfolding after
end_bad end w ws at what e = let h = end_stops end w at what e in record { front = []; others = []; parts = refl; want = w; wants = ws; wanted = refl; word = h.1; here = h.2; stops = h.0 }

bad_step : (end : ℕ) (w : Want) (ws : List Want) (t : Token) (ts : List Token) (at : ℕ) (what : CoreWanted) (deep : Bool) (next : Result (List Token) Fault)
    → (next ≡ Err (BadText at what) → IsBadText end (w ∷ ws) (t ∷ ts) at what) → cond deep (Err (TooDeep t.0)) next ≡ Err (BadText at what) → IsBadText end (w ∷ ws) (t ∷ ts) at what
bad_step end w ws t ts at what true next h e = absurd cc
bad_step end w ws t ts at what false next h e = h e

bad_is_first : (end : ℕ) (ws : List Want) (ts : List Token) (at : ℕ) (what : CoreWanted) → rest_or_fault end ws ts ≡ Err (BadText at what) → IsBadText end ws ts at what
unfolding rest_or_fault after
bad_is_first end [] ts at what e = absurd cc
bad_is_first end (w ∷ ws) [] at what e = end_bad end w ws at what e
bad_is_first end (w ∷ ws) (t ∷ ts) at what e = bad_step end w ws t ts at what (passes_nesting (left_of w) t.1) _ (λ h. step_bad end w ws t ts at what (act w t.1) refl (λ next g. bad_is_first end next ts at what g) h) e

taken_then : (s : Step) (ws : List Want) (ts more : List Token) (mid : List Want) → ((ns : List Want) → after ns ts ≡ Some mid → after ns (ts ++ more) ≡ after mid more)
    → taken s (λ ns. after (ns ++ ws) ts) ≡ Some mid → taken s (λ ns. after (ns ++ ws) (ts ++ more)) ≡ after mid more
taken_then None ws ts more mid ih h = absurd cc
taken_then (Some s) ws ts more mid ih h = ih (s.0 ++ ws) h

after_then : (ws : List Want) (front more : List Token) (mid : List Want) → after ws front ≡ Some mid → after ws (front ++ more) ≡ after mid more
unfolding after
after_then ws [] more mid e = let same : ws ≡ mid = cc in ap (λ (v : List Want). after v more) same
after_then [] (t ∷ ts) more mid e = absurd cc
after_then (w ∷ ws) (t ∷ ts) more mid e = taken_then (act w t.1) ws ts more mid (λ ns h. after_then ns ts more mid h) e

goes_on_to_whole : (ws : List Want) (front : List Token) (mid : List Want) → Fit ws → after ws front ≡ Some mid
    → (more : List Token) × (known : List Name) × (after ws (front ++ more) ≡ Some (MoreItems known ∷ []))
goes_on_to_whole ws front mid f e = let h = can_end mid (fit_after ws front mid f e) in (h.0, h.1, after_then ws front h.0 mid e ∙ h.2)

-- no text goes on with a token that the want does not take
nothing_goes_on : (ws : List Want) (front : List Token) (w : Want) (others : List Want) (t : Token) (more : List Token) → after ws front ≡ Some (w ∷ others) → act w t.1 ≡ None → after ws (front ++ t ∷ more) ≡ None
unfolding after
nothing_goes_on ws front w others t more e h = after_then ws front (t ∷ more) (w ∷ others) e ∙ rw h refl

not_whole : (w : Want) (ws : List Want) (all : List Name) → Stops w [] → Some (w ∷ ws) ≡ Some (MoreItems all ∷ []) → ⊥
not_whole (MoreItems known) ws all f e = f
not_whole (TheWord a b) ws all f e = cc
not_whole (ItemWord known) ws all f e = cc
not_whole (ItemName known s) ws all f e = cc
not_whole (PartOf left scope c) ws all f e = cc
not_whole (FormOf left scope c) ws all f e = cc
not_whole (Binding left scope s ps) ws all f e = cc
not_whole (Closing left) ws all f e = cc

not_taken : (w : Want) (t : Token) (ts : List Token) → Stops w (t ∷ ts) → act w t.1 ≡ None
not_taken (TheWord x y) t ts e = e
not_taken (MoreItems known) t ts e = e
not_taken (ItemWord known) t ts e = e
not_taken (ItemName known s) t ts e = e
not_taken (PartOf left scope c) t ts e = e
not_taken (FormOf left scope c) t ts e = e
not_taken (Binding left scope s ps) t ts e = e
not_taken (Closing left) t ts e = e

none_goes_on : (known : List Name) (front others : List Token) (w : Want) (ws : List Want) → after (start known) front ≡ Some (w ∷ ws) → Stops w others → NoneGoesOn front others
none_goes_on known front [] w ws e f = λ text. let whole = text_whole known front text in not_whole w ws whole.0 f (sym e ∙ whole.1)
none_goes_on known front (t ∷ ts) w ws e f = λ text.
    let none = nothing_goes_on (start known) front w ws t text.0 e (not_taken w t ts f) in
    let whole = (text_whole known ((front ++ t ∷ []) ++ text.0) text.1).1 in
    let same : after (start known) ((front ++ t ∷ []) ++ text.0) ≡ after (start known) (front ++ t ∷ text.0) = ap (after (start known)) (append_assoc front (t ∷ []) text.0) in
    cc (none, whole, same)

-- a front that is taken goes on to a whole text
pub front_goes_on : (known : List Name) (front : List Token) (mid : List Want) → after (start known) front ≡ Some mid → CanGoOn front
front_goes_on known front mid e =
    let more = goes_on_to_whole (start known) front mid refl e in
    (more.0, whole_text known more.1 (front ++ more.0) more.2)

pub bad_place : (end : ℕ) (known : List Name) (ts : List Token) (at : ℕ) (what : CoreWanted) → rest_or_fault end (start known) ts ≡ Err (BadText at what) → IsFirstBadPlace end known ts at what
bad_place end known ts at what e =
    let b = bad_is_first end (start known) ts at what e in
    record {
      front = b.front;
      others = b.others;
      parts = b.parts;
      here = b.here;
      goes_on = front_goes_on known b.front (b.want ∷ b.wants) b.wanted;
      stops = none_goes_on known b.front b.others b.want b.wants b.wanted b.stops;
      want = b.want;
      wants = b.wants;
      wanted = b.wanted;
      word = b.word;
    }
