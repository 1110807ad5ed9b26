-- What a call on the state gives back: its answer, and the next state.
use Rattle.model.specs.declared.{answer.Answer.Answer, answer.Reply.Reply, state.State.State}

abbrev pub replied : Answer → State → Reply
replied a s = record { answer = a; state = s }
