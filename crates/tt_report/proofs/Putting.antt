-- Texts that are put one after another.
use Rattle.std.proofs.Common.{◌≡◌, ℕ, Bool, true, false, List, [], ◌++◌, refl, sym, ap, ◌∙◌, subst, append_assoc}
use Rattle.std.specs.Prelude.{Option, if◌then◌else◌}
use Rattle.std.specs.Io.KnownBytes.{Appends}
use Rattle.std.proofs.lemmas.List.{append-nil}
use Rattle.tt_text.specs.Sinks.{TakesPart}
use Rattle.tt_text.proofs.TakenParts.{appends_nothing, appends_both}
use Rattle.tt_report.specs.Puts.{Puts}
use Rattle.tt_report.specs.declared.output.Output.{Output}

module _ {W : Type 0} (C : W → Option (List ℕ)) (F : W → Bool) where
  -- one text and then another
  pub puts_both : (a b c : Output W) (x y : List ℕ) → Puts C F a b x → Puts C F b c y → Puts C F a c (x ++ y)
  puts_both a b c x y p q = by b.failed refl
    where
      split : a.held.items ++ (x ++ y) ≡ p.taken ++ (p.rest ++ y)
      split = sym (append_assoc a.held.items x y) ∙ ap (λ z. z ++ y) p.front ∙ append_assoc p.taken p.rest y

      by : (f : Bool) → b.failed ≡ f → Puts C F a c (x ++ y)
      by false now = record {
        same_sink = q.same_sink ∙ p.same_sink;
        taken = p.taken ++ q.taken;
        rest = q.rest;
        front = split ∙ ap (λ z. p.taken ++ z) (ap (λ z. z ++ y) (sym (p.held now)) ∙ q.front) ∙ sym (append_assoc p.taken q.taken q.rest);
        appended = appends_both (C a.sink.now) (C b.sink.now) (C c.sink.now) p.taken q.taken p.appended q.appended;
        held = q.held;
        failed = λ h. q.failed now ∙ ap (λ z. if c.failed then true else z) (p.failed h ∙ ap (λ f. if f then true else F a.sink.now) now);
        stopped = λ h. let s = p.stopped h in let t = q.stopped s.0 in (t.0, t.1 ∙ s.1);
      }
      by true now = let s = q.stopped now in record {
        same_sink = q.same_sink ∙ p.same_sink;
        taken = p.taken;
        rest = p.rest ++ y;
        front = split;
        appended = subst (λ w. Appends (C a.sink.now) (C w) p.taken) (sym s.1) p.appended;
        held = λ h. let k = s.0 in cc;
        failed = λ h. ap F s.1 ∙ p.failed h ∙ ap (λ f. if f then true else F a.sink.now) (now ∙ sym s.0);
        stopped = λ h. (s.0, s.1 ∙ (p.stopped h).1);
      }

  -- no text
  pub puts_nothing : (a : Output W) → Puts C F a a []
  puts_nothing a = record {
    same_sink = refl;
    taken = [];
    rest = a.held.items;
    front = append-nil a.held.items;
    appended = appends_nothing (C a.sink.now);
    held = λ h. refl;
    failed = λ h. rw h refl;
    stopped = λ h. (h, refl);
  }

  -- a text after a failed write
  pub puts_ignored : (a : Output W) (x : List ℕ) → a.failed ≡ true → Puts C F a a x
  puts_ignored a x now = record {
    same_sink = refl;
    taken = [];
    rest = a.held.items ++ x;
    front = refl;
    appended = appends_nothing (C a.sink.now);
    held = λ h. cc;
    failed = λ h. rw h refl;
    stopped = λ h. (h, refl);
  }

  -- a text that is added to the buffer
  pub puts_held : (a b : Output W) (x : List ℕ) → b.held.items ≡ a.held.items ++ x → b.sink.ghost_name ≡ a.sink.ghost_name
      → b.sink.now ≡ a.sink.now → b.failed ≡ a.failed → Puts C F a b x
  puts_held a b x more name sink flag = record {
    same_sink = name;
    taken = [];
    rest = a.held.items ++ x;
    front = refl;
    appended = subst (λ w. Appends (C a.sink.now) (C w) []) (sym sink) (appends_nothing (C a.sink.now));
    held = λ h. more;
    failed = λ h. ap F sink ∙ rw (flag, h) refl;
    stopped = λ h. (flag ∙ h, sink);
  }

  -- the buffer and a text after it that are written
  pub puts_sent : (a b : Output W) (x sent : List ℕ) → a.held.items ++ x ≡ sent → b.held.items ≡ [] → b.sink.ghost_name ≡ a.sink.ghost_name
      → (a.failed ≡ false → b.failed ≡ false → Appends (C a.sink.now) (C b.sink.now) sent)
      → (a.failed ≡ false → b.failed ≡ true → TakesPart (C a.sink.now) (C b.sink.now) sent)
      → (a.failed ≡ false → F b.sink.now ≡ (if b.failed then true else F a.sink.now))
      → (a.failed ≡ true → (b.failed ≡ true) × (b.sink.now ≡ a.sink.now))
      → Puts C F a b x
  puts_sent a b x sent all_is empty name all part failed stopped = by a.failed b.failed refl refl
    where
      by : (f g : Bool) → a.failed ≡ f → b.failed ≡ g → Puts C F a b x
      by false false before after = record {
        same_sink = name;
        taken = sent;
        rest = [];
        front = all_is ∙ sym (append-nil sent);
        appended = all before after;
        held = λ h. empty;
        failed = failed;
        stopped = stopped;
      }
      by false true before after = let p = part before after in record {
        same_sink = name;
        taken = p.taken;
        rest = p.rest;
        front = all_is ∙ p.front;
        appended = p.appended;
        held = λ h. cc;
        failed = failed;
        stopped = stopped;
      }
      by true g before after = let s = stopped before in record {
        same_sink = name;
        taken = [];
        rest = a.held.items ++ x;
        front = refl;
        appended = subst (λ w. Appends (C a.sink.now) (C w) []) (sym s.1) (appends_nothing (C a.sink.now));
        held = λ h. let k = s.0 in cc;
        failed = failed;
        stopped = stopped;
      }

  -- a part of the text was written before a write failed
  pub part_written : (first last end : Output W) (before after : W) (x : List ℕ) → first.held.items ≡ [] → first.sink.now ≡ before
      → end.sink.now ≡ after → Puts C F first last x → Puts C F last end [] → TakesPart (C before) (C after) x
  part_written first last end before after x empty begins ends p q =
      let both = puts_both first last end x [] p q in
      record {
        taken = both.taken;
        rest = both.rest;
        front = sym (append-nil x) ∙ ap (λ z. z ++ (x ++ [])) (sym empty) ∙ both.front;
        appended = subst (λ w. Appends (C w) (C after) both.taken) begins
            (subst (λ w. Appends (C first.sink.now) (C w) both.taken) ends both.appended);
      }
