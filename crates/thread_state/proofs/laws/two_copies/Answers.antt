-- The law, by the lemmas over any calls and any answers.
use Rattle.thread_state.proofs.Calls.{one_store_commits}
use Rattle.thread_state.proofs.Sixteen.{sixteen_copy}
use Rattle.thread_state.proofs.Puts.{puts_are_calls}
use Rattle.thread_state.proofs.laws.two_copies.Goals as goal

pub returns-clause-one_store : goal.returns-clause-one_store
returns-clause-one_store c = one_store_commits

pub returns-clause-sixteen : goal.returns-clause-sixteen
returns-clause-sixteen c = sixteen_copy

pub returns-clause-puts : goal.returns-clause-puts
returns-clause-puts c = puts_are_calls
