use Rattle.js_printer.proofs.functions.+function.Given as goal

abbrev pub decreases-function : goal.decreases-function
decreases-function l = l.depth
