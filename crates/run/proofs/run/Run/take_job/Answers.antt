use Rattle.std.proofs.Common.{◌≡◌, ℕ, ◌≤◌, true, List, length, sym, ap, ◌∙◌, subst}
use Rattle.book.specs.Accounts.{book_fits}
use Rattle.records.specs.Layout.{parts, payload_at}
use Rattle.job.specs.declared.head.Head.{Head}
use Rattle.job.specs.Jobs.{head_in}
use Rattle.job.specs.Books.{accounts_of}
use Rattle.job.specs.Keeps.{Keeps}
use Rattle.job.proofs.Readings.{file_keeps, book_fits_lem}
use Rattle.run.proofs.run.Run.take_job.Given as given
use Rattle.run.proofs.run.Run.take_job.Goals as goal
use Rattle.run.proofs.run.Run.take_job.Goals.{After-payload-2}

-- the payloads keep the rules
kept : (g : given.Over) (c : After-payload-2 g) → Keeps (g.G.Gas.model c.args.self.now.gas) (g.S.TwistSource.model c.args.self.now.state.source) (parts c.args.file.now c.args.job.places)
kept g c = file_keeps _ _ c.args.file.now c.args.job.places c.requires.0.places c.requires.1

pub read_book-self-requires : goal.read_book-self-requires
read_book-self-requires g c = ap (λ (bs : List ℕ). length bs) c.payload-2.ensures ∙ (kept g (goal.at.read_book-self-requires g c).After-payload-2).book.long

pub invariant_of-self : goal.invariant_of-self
invariant_of-self g c =
    let keeps = kept g (goal.at.invariant_of-self g c).After-payload-2 in
    let file = c.args.file.now in
    let places = c.args.job.places in
    let head = c.requires.0.head in
    let books : c.read_book-self.result.accounts ≡ accounts_of (payload_at file places.book) = c.read_book-self.ensures ∙ ap accounts_of c.payload-2.ensures in
    let fits : book_fits c.args.job.head.steps c.read_book-self.result.accounts ≡ true =
    (λ j. book_fits (ap (λ (h : Head). h.steps) head j) (books j)) ∙ book_fits_lem (head_in (parts file places)).steps (payload_at file places.book) keeps.book in
    record {
      slow = subst (λ (h : Head). h.period ≤ 999) (sym head) keeps.head.period;
      few = subst (λ (h : Head). h.steps ≤ 1000000000) (sym head) keeps.head.steps;
      ranged = fits;
    }
