-- The search over the places finds the first unsound one.
use Rattle.std.proofs.Common.{◌≡◌, ℕ, ◌*◌, ◌^◌, max, true, false, length, sym, ap, ◌∙◌, rules}
use borrow.Author.Tests.{tests}
use Rattle.std.proofs.lemmas.Iterator.{first_from_Range}
use Rattle.gas.specs.Judging.{sound_place, unless}
use Rattle.gas.proofs.Tables.{judged_found}
use Rattle.gas.proofs.Gas.first_unsound.Goals as goal

pub returns-in-Some : goal.returns-in-Some
returns-in-Some g c =
    let m = g.Self.Gas.model c.args.self.now in
    let list = c.args.list.now in
    let states-are = c.states_of.ensures ∙ ap (λ (q : ℕ). 2 ^ q) c.channels.ensures in
    ap unless (sym c.in-Some.is)
    ∙ judged_found m list _ _ (c.max-places.ensures ∙ ap (λ (n : ℕ). max (length list) (2 * n)) states-are)
    (first_from_Range _ _ _ _ (λ k. sound_place m list k ≡ false) (λ k. sound_place m list k ≡ true) c.find.ensures.ran (λ x q k. search (rules, tests)) (λ x q k. search (rules, tests)))

pub returns-in-None : goal.returns-in-None
returns-in-None g c =
    let m = g.Self.Gas.model c.args.self.now in
    let list = c.args.list.now in
    let states-are = c.states_of.ensures ∙ ap (λ (q : ℕ). 2 ^ q) c.channels.ensures in
    ap unless (sym c.in-None.is)
    ∙ judged_found m list _ _ (c.max-places.ensures ∙ ap (λ (n : ℕ). max (length list) (2 * n)) states-are)
    (first_from_Range _ _ _ _ (λ k. sound_place m list k ≡ false) (λ k. sound_place m list k ≡ true) c.find.ensures.ran (λ x q k. search (rules, tests)) (λ x q k. search (rules, tests)))
