-- The text of a script gives the tokens of its pieces.
use Rattle.std.proofs.Common.{◌≡◌, ℕ, false, List, map, length, refl, ap, sym, subst}
use Rattle.std.specs.Prelude.{Some, Ok, Err, IsOkAnd}
use Rattle.std.specs.Str.{encode_utf8_all, IsUtf8}
use Rattle.std.proofs.lemmas.Str.{chars-encodes, is_utf8-from_IsUtf8}
use Rattle.js_tree.specs.Lexing.{Lexed, lexed, lex_from, ended}
use Rattle.js_tree.specs.declared.token.Tokens.{Tokens}
use Rattle.script_text.specs.declared.gap.Gap.TheVariants.{Start}
use Rattle.script_text.specs.Pieces.{Piece, text_of, blank}
use Rattle.script_text.specs.Printing.{script_text, script_pieces}
use Rattle.script_text.specs.Tokens.{Shape, shape_of, tokens_from}
use Rattle.lexing_back.specs.LexingBack.{HasTokens, LexesBack}
use Rattle.lexing_back.proofs.Written.{written, shapes, Reads}
use Rattle.lexing_back.proofs.Functions.{script-reads}

given : (n : ℕ) (r : Lexed) (us : List Shape) → shapes r ≡ Some us → IsOkAnd (ended n r) (λ (ts : Tokens). map shape_of ts.items ≡ us)
given n (Ok ts) us is = cc
given n (Err e) us is = cc

-- pieces that read
of_pieces : (ps : List Piece) → Reads ps → HasTokens (text_of ps) (tokens_from false ps)
unfolding lexed
of_pieces ps reads =
    let z = written Start 0 ps in
    let bytes = encode_utf8_all z in
    let valid = reads.valid Start 0 in
    let text : IsUtf8 bytes = (z, (valid, refl)) in
    let is : lexed bytes ≡ ended (length bytes) (lex_from 0 false 0 z) =
    rw (is_utf8-from_IsUtf8 bytes text) (ap (λ w. ended (length bytes) (lex_from 0 false 0 w)) (chars-encodes z valid)) in
    subst (λ t. HasTokens t (tokens_from false ps)) (sym (reads.puts blank))
    (subst (λ r. IsOkAnd r (λ (ts : Tokens). map shape_of ts.items ≡ tokens_from false ps)) (sym is) (given (length bytes) (lex_from 0 false 0 z) (tokens_from false ps) (reads.lexes Start 0 false 0)))

pub lexes_back : LexesBack
unfolding script_text
lexes_back = record { script = λ s is. of_pieces (script_pieces s) (script-reads s is) }
