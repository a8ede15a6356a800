-- The text of a readable script gives it back.
use Rattle.std.proofs.Common.{◌≡◌, ◌∙◌, ℕ, Bool, true, false, refl, ap, sym, map}
use Rattle.std.specs.Prelude.{◌&&◌, None, Result, Ok, Err, IsOkAnd}
use Rattle.js_value.specs.declared.place.Place.{Place}
use Rattle.js_tree.specs.declared.refusal.ReadRefused.TheVariants.{Nested}
use Rattle.js_grammar.specs.Checked.{checked, read_checked, unless_fault}
use Rattle.js_grammar.specs.Reading.{read}
use Rattle.js_tree.specs.Early.{early_fault}
use Rattle.js_tree.specs.Lexing.{lexed}
use Rattle.js_tree.specs.declared.refusal.ReadRefused.{ReadRefused}
use Rattle.js_tree.specs.declared.statement.Script.{Script}
use Rattle.js_tree.specs.declared.token.Tokens.{Tokens}
use Rattle.js_grammar.specs.Readable.{is_readable}
use Rattle.lexing_back.specs.LexingBack.{LexesBack}
use Rattle.early_back.specs.EarlyBack.{EarlyBack, ReadableBack}
use Rattle.reading_back.specs.ReadsBack.{ReadsBack, ReadsTo}
use Rattle.script_text.specs.Printing.{script_text, script_pieces}
use Rattle.script_text.specs.Tokens.{shape_of, tokens_from}
use Rattle.js_printer.specs.GivesBack.{GivesBack}

-- what no early check refuses is read with these checks as without them
without_fault : (ts : Tokens) (tree : Script) (limit : ℕ) → early_fault tree ≡ None → read ts limit ≡ Ok tree → read_checked ts limit ≡ Ok tree
unfolding read_checked
without_fault ts tree limit none is = ap checked is ∙ ap (unless_fault tree) none

-- what is nested too deep is refused before the early checks
refused : (ts : Tokens) (limit : ℕ) (at : Place) → read ts limit ≡ Err (Nested at) → read_checked ts limit ≡ Err (Nested at)
unfolding read_checked
refused ts limit at is = ap checked is

module _ (early : EarlyBack) (again : ReadableBack) (s : Script) (readable : is_readable s ≡ true) where
  by_tree : (ts : Tokens) → lexed (script_text s) ≡ Ok ts → ReadsTo ts s → GivesBack (script_text s) s
  by_tree ts lexes back =
      let none : early_fault back.tree ≡ None = early s back.tree (sym back.same) readable in
      record {
        tokens = ts;
        lexes = lexes;
        reads = back;
        readable = again s back.tree (sym back.same) readable;
        within = λ limit le. without_fault ts back.tree limit none (back.reads limit le);
        beyond = λ limit less. let n = back.nested limit less in (n.0, refused ts limit n.0 n.1);
      }

  by_tokens : ReadsBack → (r : Result Tokens ReadRefused) → lexed (script_text s) ≡ r
      → IsOkAnd r (λ (ts : Tokens). map shape_of ts.items ≡ tokens_from false (script_pieces s)) → GivesBack (script_text s) s
  by_tokens reads (Ok ts) lexes same = by_tree ts lexes (reads s ts readable same)
  by_tokens reads (Err e) lexes same = absurd same

first_true : (a b : Bool) → (a && b) ≡ true → a ≡ true
first_true true b holds = refl
first_true false b holds = holds

pub gives_back : LexesBack → ReadsBack → EarlyBack → ReadableBack → (s : Script) → is_readable s ≡ true → GivesBack (script_text s) s
unfolding is_readable
gives_back lexes reads early again s readable =
    by_tokens early again s readable reads (lexed (script_text s)) refl (lexes.script s (first_true _ _ (first_true _ _ (first_true _ _ readable))))
