-- Bytes that are taken part by part.
use Rattle.std.proofs.Common.{◌≡◌, ℕ, List, [], ◌++◌, take, drop, Some, None, refl, sym, ap, ◌∙◌, subst, append_assoc}
use Rattle.std.specs.Prelude.{Option}
use Rattle.std.specs.Io.KnownBytes.{Appends, Keeps}
use Rattle.std.proofs.lemmas.List.{append-nil, take-append-drop}
use Rattle.tt_text.specs.Sinks.{TakesPart}

-- nothing is taken at first
pub appends_nothing : (known : Option (List ℕ)) → Appends known known []
appends_nothing None = tt
appends_nothing (Some xs) = sym (append-nil xs)

-- one part and then another
pub appends_both : (before mid after : Option (List ℕ)) (xs ys : List ℕ) → Appends before mid xs → Appends mid after ys
    → Appends before after (xs ++ ys)
appends_both None mid after xs ys h k = tt
appends_both (Some a) None after xs ys h k = absurd h
appends_both (Some a) (Some b) None xs ys h k = absurd k
appends_both (Some a) (Some b) (Some c) xs ys h k = k ∙ ap (λ z. z ++ ys) h ∙ append_assoc a xs ys

-- a part, and a write that failed
pub appends_kept : (before mid after : Option (List ℕ)) (xs : List ℕ) → Appends before mid xs → Keeps mid after → Appends before after xs
appends_kept None mid after xs h k = tt
appends_kept (Some a) None after xs h k = absurd h
appends_kept (Some a) (Some b) None xs h k = absurd k
appends_kept (Some a) (Some b) (Some c) xs h k = k ∙ h

-- the bytes are those taken so far and the rest
pub record Taken (before after : Option (List ℕ)) (bytes rest : List ℕ) : Type 0 where
  pub taken : List ℕ
  pub front : bytes ≡ taken ++ rest
  pub appended : Appends before after taken

pub taken_first : (known : Option (List ℕ)) (bytes : List ℕ) → Taken known known bytes bytes
taken_first known bytes = record { taken = []; front = refl; appended = appends_nothing known }

pub taken_more : (before mid after : Option (List ℕ)) (bytes rest left : List ℕ) (n : ℕ) → Taken before mid bytes rest
    → Appends mid after (take n rest) → left ≡ drop n rest → Taken before after bytes left
taken_more before mid after bytes rest left n part more left_is = record {
  taken = part.taken ++ take n rest;
  front = part.front ∙ ap (λ z. part.taken ++ z) (sym (take-append-drop n rest))
      ∙ sym (append_assoc part.taken (take n rest) (drop n rest)) ∙ ap (λ z. (part.taken ++ take n rest) ++ z) (sym left_is);
  appended = appends_both before mid after part.taken (take n rest) part.appended more;
}

pub taken_part : (before mid after : Option (List ℕ)) (bytes rest : List ℕ) → Taken before mid bytes rest → Keeps mid after
    → TakesPart before after bytes
taken_part before mid after bytes rest part kept =
    record { taken = part.taken; rest = rest; front = part.front; appended = appends_kept before mid after part.taken part.appended kept }

pub taken_all : (before after : Option (List ℕ)) (bytes rest : List ℕ) → rest ≡ [] → Taken before after bytes rest
    → Appends before after bytes
taken_all before after bytes rest none part =
    subst (Appends before after) (sym (append-nil part.taken) ∙ ap (λ z. part.taken ++ z) (sym none) ∙ sym part.front) part.appended
