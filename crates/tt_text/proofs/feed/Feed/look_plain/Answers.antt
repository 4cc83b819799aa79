use Rattle.std.proofs.Common.{ℕ, Bool, List, Option, Some, None, IfSome}
use Rattle.tt_text.specs.Found.{FindsToken}
use Rattle.tt_text.proofs.feed.Feed.look_plain.Goals as goal

whether_ended : (at : ℕ) (held : List ℕ) (o : Option (ℕ × ℕ)) (ended : Bool)
    → IfSome o (λ found. (e : Bool) → FindsToken at held e found.0 found.1) → IfSome o (λ found. FindsToken at held ended found.0 found.1)
whether_ended at held None ended h = tt
whether_ended at held (Some found) ended h = h ended

pub returns : goal.returns
returns c = rw (← c.self.view_is) (whether_ended c.self.inside.at _ c.find_plain.result c.self.inside.ended
    (rw c.deref.ensures.value at c.find_plain.ensures))
