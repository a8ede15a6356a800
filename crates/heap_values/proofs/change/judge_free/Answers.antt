use Rattle.heap_values.proofs.change.judge_free.Goals as goal

pub returns-in-Data : goal.returns-in-Data
returns-in-Data c = rw c.in-Data.is (c.judge_data.ensures c.in-Data.enumerable)

pub returns-in-Accessor : goal.returns-in-Accessor
returns-in-Accessor c = rw c.in-Accessor.is (c.judge_accessor.ensures c.in-Accessor.enumerable)
