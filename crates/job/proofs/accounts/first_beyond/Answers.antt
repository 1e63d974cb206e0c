use Rattle.std.proofs.Common.{rules, ℕ, Bool, ltb, nat_abs, refl, zero-add, sym, ap, ◌∙◌}
use Rattle.std.specs.List.{range_with_len}
use Rattle.std.proofs.lemmas.Iterator.{YieldsList-from_range}
use Rattle.std.proofs.lemmas.Iterator.Search.{position_from_yields_List}
use Rattle.std.proofs.lemmas.List.FromFn.{get_or-range_with_len}
use Rattle.job.specs.Books.{number_of}
use Rattle.job.proofs.Positions.{position_first}
use Rattle.job.proofs.accounts.first_beyond.Goals as goal

pub returns-clause-first : goal.returns-clause-first
returns-clause-first c =
    let beyond : ℕ → Bool = λ i. ltb c.args.most (nat_abs (number_of c.args.book.now i)) in
    position_from_yields_List beyond _ _ _ c.position.ensures.ran (YieldsList-from_range 0 32 32 (search rules) refl) (λ i b f called. (search rules, search rules))
    ∙ position_first beyond beyond (range_with_len 0 32) 0 (λ i l. ap beyond (sym (get_or-range_with_len 0 32 i 0 l ∙ zero-add i)))
