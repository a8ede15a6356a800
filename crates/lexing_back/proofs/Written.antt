-- Lists of pieces whose text gives their tokens, one piece after another.
use Rattle.std.proofs.Common.{◌≡◌, ℕ, zero, suc, ◌+◌, ◌-◌, ◌*◌, Bool, true, false, ◌||◌, List, [], ◌∷◌, ◌++◌, map, cond, refl, ap, sym, ◌∙◌, arith, append_assoc, append-nil, replicate}
use Rattle.std.specs.Prelude.{◌==◌, slice_index, codes, Option, Some, None, Ok, Err}
use Rattle.std.specs.Fmt.{signed_decimal}
use Rattle.std.specs.Char.Utf16.{utf16_lossy_chars}
use Rattle.std.specs.List.{list_all}
use Rattle.std.specs.Str.{all_scalars, encode_utf8_all}
use Rattle.std.proofs.lemmas.Bool.{and_parts, and_from, eqb-true}
use Rattle.std.proofs.lemmas.Str.{encodes-append}
use Rattle.js_value.specs.Texts.{quoted}
use Rattle.js_tree.specs.Lexing.{Lexed, with_front, width, scan, lex_from}
use Rattle.js_tree.specs.Refusals.{place}
use Rattle.js_tree.specs.declared.token.InputElement.TheVariants as element
use Rattle.js_tree.specs.declared.token.Token.{Token}
use Rattle.js_tree.specs.declared.token.TokenForm.{TokenForm}
use Rattle.script_text.specs.declared.gap.Gap.{Gap}
use Rattle.script_text.specs.declared.gap.Gap.TheVariants.{Start, Tight, Sign, Loose}
use Rattle.script_text.specs.Pieces as pieces
use Rattle.script_text.specs.Pieces.{Piece, Page, utf8, between, put_token, put, put_all}
use Rattle.script_text.specs.Tokens.{Shape, shape, shape_of, tokens_from}
use Rattle.lexing_back.proofs.Characters.{Behind, allows}
use Rattle.lexing_back.proofs.Scanning.{Scans, scanned}

-- the characters that pieces make behind a gap at a depth
abbrev pub written : Gap → ℕ → List Piece → List ℕ
written gap depth [] = []
written gap depth (pieces.Token text is_tight behind ∷ more) = between gap is_tight depth text ++ (text ++ written behind depth more)
written gap depth (pieces.LineEnd ∷ more) = 10 ∷ written Start depth more
written gap depth (pieces.Open ∷ more) = written gap (depth + 1) more
written gap depth (pieces.Close ∷ more) = written gap (depth - 1) more
written gap depth (pieces.Reference name ∷ more) = between gap false depth (utf8 name) ++ (utf16_lossy_chars name ++ written Loose depth more)
written gap depth (pieces.Named name behind ∷ more) = between gap false depth (utf8 name) ++ (utf16_lossy_chars name ++ written behind depth more)
written gap depth (pieces.Quoted text behind ∷ more) = between gap false depth (quoted text) ++ (quoted text ++ written behind depth more)
written gap depth (pieces.Number n ∷ more) = between gap false depth (signed_decimal n) ++ (signed_decimal n ++ written Loose depth more)
written gap depth (pieces.Bind names ∷ more) = written gap depth more
written gap depth (pieces.Release ∷ more) = written gap depth more

-- the first of them
abbrev pub first : Gap → ℕ → List Piece → ℕ
first gap depth ps = slice_index (written gap depth ps) 0

abbrev pub shapes : Lexed → Option (List Shape)
shapes (Ok ts) = Some (map shape_of ts)
shapes (Err e) = None

-- What these pieces put on a page is the UTF-8 of these characters, and they give the tokens of the pieces.
pub record Reads (ps : List Piece) : Type 0 where
  pub puts : (p : Page) → (put_all ps p).bytes ≡ p.bytes ++ encode_utf8_all (written p.gap p.depth ps)
  pub valid : (gap : Gap) (depth : ℕ) → all_scalars (written gap depth ps) ≡ true
  pub lexes : (gap : Gap) (depth : ℕ) (line : Bool) (at : ℕ) → shapes (lex_from at line 0 (written gap depth ps)) ≡ Some (tokens_from line ps)

pub Reads-nil : Reads []
Reads-nil = record { puts = λ p. sym (append-nil p.bytes); valid = λ gap depth. refl; lexes = λ gap depth line at. refl }

-- ---- spaces

abbrev are_spaces : List ℕ → Bool
are_spaces xs = list_all (λ c. c == 32) xs

spaces-many : (n : ℕ) → are_spaces (replicate n 32) ≡ true
spaces-many zero = refl
spaces-many (suc n) = spaces-many n

spaces-cond : (b : Bool) → are_spaces (cond b (codes " ") []) ≡ true
spaces-cond true = refl
spaces-cond false = refl

spaces-unless : (b : Bool) → are_spaces (cond b [] (codes " ")) ≡ true
spaces-unless true = refl
spaces-unless false = refl

spaces-between : (gap : Gap) (is_tight : Bool) (depth : ℕ) (text : List ℕ) → are_spaces (between gap is_tight depth text) ≡ true
spaces-between Start is_tight depth text = spaces-many (2 * depth)
spaces-between Tight is_tight depth text = refl
spaces-between Sign is_tight depth text = spaces-cond (slice_index text 0 == 43 || slice_index text 0 == 45)
spaces-between Loose is_tight depth text = spaces-unless is_tight

shapes-none : (r : Lexed) → shapes (with_front [] r) ≡ shapes r
shapes-none (Ok ts) = refl
shapes-none (Err e) = refl

shapes-one : (t : Token) (r : Lexed) (us : List Shape) → shapes r ≡ Some us → shapes (with_front (t ∷ []) r) ≡ Some (shape_of t ∷ us)
shapes-one t (Ok ts) us e = cc
shapes-one t (Err e) us is = cc

scan-space : (at : ℕ) (z : List ℕ) → scan at (32 ∷ z) ≡ Ok (element.WhiteSpace, 1)
unfolding scan
scan-space at z = refl

scan-line_end : (at : ℕ) (z : List ℕ) → scan at (10 ∷ z) ≡ Ok (element.LineEnd, 1)
unfolding scan
scan-line_end at z = refl

behind_spaces : (xs z : List ℕ) (line : Bool) (r : Option (List Shape)) → are_spaces xs ≡ true → ((at : ℕ) → shapes (lex_from at line 0 z) ≡ r) → (at : ℕ) → shapes (lex_from at line 0 (xs ++ z)) ≡ r
behind_spaces [] z line r all is at = is at
behind_spaces (c ∷ xs) z line r all is at =
    let p = and_parts (c == 32) (are_spaces xs) all in
    let z' = xs ++ z in
    ap (λ b. shapes (lex_from at line 0 (b ∷ z'))) (eqb-true c 32 p.0)
    ∙ ap shapes (scanned at line (32 ∷ []) z' element.WhiteSpace (omega arith) (scan-space at z'))
    ∙ shapes-none (lex_from (at + width (32 ∷ [])) line 0 z')
    ∙ behind_spaces xs z line r p.1 is (at + width (32 ∷ []))

spaces-valid : (xs : List ℕ) → are_spaces xs ≡ true → all_scalars xs ≡ true
spaces-valid [] all = refl
spaces-valid (c ∷ xs) all =
    let p = and_parts (c == 32) (are_spaces xs) all in
    ap (λ b. all_scalars (b ∷ xs)) (eqb-true c 32 p.0) ∙ spaces-valid xs p.1

spaces-encoded : (xs : List ℕ) → are_spaces xs ≡ true → encode_utf8_all xs ≡ xs
unfolding lib.Utf8.encode
spaces-encoded [] all = refl
spaces-encoded (c ∷ xs) all =
    let p = and_parts (c == 32) (are_spaces xs) all in
    let e = eqb-true c 32 p.0 in
    ap (λ b. encode_utf8_all (b ∷ xs)) e ∙ ap (λ ys. 32 ∷ ys) (spaces-encoded xs p.1) ∙ ap (λ b. b ∷ xs) (sym e)

valid-append : (xs ys : List ℕ) → all_scalars xs ≡ true → all_scalars ys ≡ true → all_scalars (xs ++ ys) ≡ true
valid-append [] ys a b = b
valid-append (x ∷ xs) ys a b = let p = and_parts _ (all_scalars xs) a in and_from _ (all_scalars (xs ++ ys)) p.0 (valid-append xs ys p.1 b)

-- ---- one more piece in front

-- A piece that is a token with this text.
pub record IsToken (p : Piece) (text cs : List ℕ) (is_tight : Bool) (behind : Gap) (f : TokenForm) : Type 0 where
  pub puts : (page : Page) → put page p ≡ put_token page text is_tight behind
  pub writes : (gap : Gap) (depth : ℕ) (more : List Piece) → written gap depth (p ∷ more) ≡ between gap is_tight depth text ++ (cs ++ written behind depth more)
  pub gives : (line : Bool) (more : List Piece) → tokens_from line (p ∷ more) ≡ shape f line ∷ tokens_from false more
  pub encodes : encode_utf8_all cs ≡ text

three : (xs ys zs : List ℕ) → encode_utf8_all (xs ++ (ys ++ zs)) ≡ encode_utf8_all xs ++ (encode_utf8_all ys ++ encode_utf8_all zs)
three xs ys zs = encodes-append xs (ys ++ zs) ∙ ap (λ w. encode_utf8_all xs ++ w) (encodes-append ys zs)

pub Reads-token : (p : Piece) (text cs : List ℕ) (is_tight : Bool) (behind : Gap) (f : TokenForm) (b : Behind) (more : List Piece) → IsToken p text cs is_tight behind f → Scans cs f b → Reads more
    → ((depth : ℕ) → allows b (first behind depth more) ≡ true) → Reads (p ∷ more)
Reads-token p text cs is_tight behind f b more is scans reads lets = record {
  puts = λ page.
      let blanks = between page.gap is_tight page.depth text in
      let rest = written behind page.depth more in
      ap (λ q. (put_all more q).bytes) (is.puts page)
      ∙ reads.puts (put_token page text is_tight behind)
      ∙ ap (λ w. w ++ encode_utf8_all rest) (append_assoc page.bytes blanks text)
      ∙ append_assoc page.bytes (blanks ++ text) (encode_utf8_all rest)
      ∙ ap (λ w. page.bytes ++ w) (append_assoc blanks text (encode_utf8_all rest)
      ∙ ap (λ w. w ++ (text ++ encode_utf8_all rest)) (sym (spaces-encoded blanks (spaces-between page.gap is_tight page.depth text)))
      ∙ ap (λ w. encode_utf8_all blanks ++ (w ++ encode_utf8_all rest)) (sym is.encodes)
      ∙ sym (three blanks cs rest)
      ∙ ap encode_utf8_all (sym (is.writes page.gap page.depth more)));
  valid = λ gap depth.
      let blanks = between gap is_tight depth text in
      ap all_scalars (is.writes gap depth more)
      ∙ valid-append blanks (cs ++ written behind depth more) (spaces-valid blanks (spaces-between gap is_tight depth text))
      (valid-append cs (written behind depth more) scans.valid (reads.valid behind depth));
  lexes = λ gap depth line at.
      let blanks = between gap is_tight depth text in
      let rest = written behind depth more in
      ap (λ w. shapes (lex_from at line 0 w)) (is.writes gap depth more)
      ∙ behind_spaces blanks (cs ++ rest) line (Some (shape f line ∷ tokens_from false more)) (spaces-between gap is_tight depth text)
      (λ from.
      ap shapes (scanned from line cs rest (element.Token f) scans.some (scans.scans from rest (lets depth)))
      ∙ shapes-one (record { at = place from; end = place (from + width cs); line_before = line; form = f }) (lex_from (from + width cs) false 0 rest) (tokens_from false more) (reads.lexes behind depth false (from + width cs)))
      at
      ∙ ap Some (sym (is.gives line more));
}

pub Reads-LineEnd : (more : List Piece) → Reads more → Reads (pieces.LineEnd ∷ more)
unfolding put lib.Utf8.encode
Reads-LineEnd more reads = record {
  puts = λ p. reads.puts (put p pieces.LineEnd) ∙ append_assoc p.bytes (10 ∷ []) (encode_utf8_all (written Start p.depth more));
  valid = λ gap depth. reads.valid Start depth;
  lexes = λ gap depth line at.
      let rest = written Start depth more in
      ap shapes (scanned at line (10 ∷ []) rest element.LineEnd (omega arith) (scan-line_end at rest))
      ∙ shapes-none (lex_from (at + width (10 ∷ [])) true 0 rest)
      ∙ reads.lexes Start depth true (at + width (10 ∷ []));
}

pub Reads-Open : (more : List Piece) → Reads more → Reads (pieces.Open ∷ more)
unfolding put
Reads-Open more reads = record {
  puts = λ p. reads.puts (put p pieces.Open);
  valid = λ gap depth. reads.valid gap (depth + 1);
  lexes = λ gap depth line at. reads.lexes gap (depth + 1) line at;
}

pub Reads-Close : (more : List Piece) → Reads more → Reads (pieces.Close ∷ more)
unfolding put
Reads-Close more reads = record {
  puts = λ p. reads.puts (put p pieces.Close);
  valid = λ gap depth. reads.valid gap (depth - 1);
  lexes = λ gap depth line at. reads.lexes gap (depth - 1) line at;
}

pub Reads-Bind : (names : List (List ℕ)) (more : List Piece) → Reads more → Reads (pieces.Bind names ∷ more)
unfolding put
Reads-Bind names more reads = record { puts = λ p. reads.puts p; valid = reads.valid; lexes = reads.lexes }

pub Reads-Release : (more : List Piece) → Reads more → Reads (pieces.Release ∷ more)
unfolding put
Reads-Release more reads = record { puts = λ p. reads.puts p; valid = reads.valid; lexes = reads.lexes }
