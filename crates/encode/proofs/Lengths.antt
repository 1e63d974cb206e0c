-- How long a tunnel's file is.
use Rattle.std.proofs.Common.{◌≡◌, ◌+◌, ◌*◌, ◌≤◌, List, [], ◌∷◌, length, refl, arith, length-append, pow_mono}
use Rattle.gas.specs.Model.{GasModel, states}
use Rattle.gas.specs.Laws.{GasLaws}
use Rattle.lattice.specs.declared.vector.Vector.{Vector as Account}
use Rattle.book.specs.Accounts.{accounts}
use Rattle.dynamics.specs.Tunnels.{Tunnel, cells}
use Rattle.records.specs.Files.{Rec, rec, laid}
use Rattle.records.specs.Format.{record_of}
use Rattle.records.proofs.Headers.{length_record}
use Rattle.encode.specs.Encodings.{head_bytes, book_bytes, file_of, file_length}

pub few_states : (gas : GasModel) → GasLaws gas → states gas ≤ 128
few_states gas laws = pow_mono laws.few

pub length_book : (book : List Account) → length (book_bytes book) ≡ 16 * length book
unfolding book_bytes
length_book [] = refl
length_book (a ∷ more) = omega (arith, length_book more)

length-laid : (r : Rec) (rs : List Rec) → length (laid (r ∷ rs)) ≡ 8 + length r.payload + length (laid rs)
length-laid r rs = omega (arith, length-append (record_of r.kind r.payload) (laid rs), length_record r.kind r.payload)

pub length_file : (t : Tunnel) → length t.run.entries ≡ 2 * states t.run.gas → length t.map ≡ cells t.run → length t.field ≡ cells t.run → length t.run.book ≡ accounts → length (file_of t) ≡ file_length t.run.gas (cells t.run)
unfolding file_of
length_file t entries map field book =
    let h = rec 2 (head_bytes t.run) in
    let r = rec 3 t.run.entries in
    let m = rec 4 t.map in
    let f = rec 5 t.field in
    let b = rec 6 (book_bytes t.run.book) in
    let e = rec 1 [] in
    omega (arith, length-laid h (r ∷ m ∷ f ∷ b ∷ e ∷ []), length-laid r (m ∷ f ∷ b ∷ e ∷ []), length-laid m (f ∷ b ∷ e ∷ []), length-laid f (b ∷ e ∷ []), length-laid b (e ∷ []), length-laid e [], length_book t.run.book)
