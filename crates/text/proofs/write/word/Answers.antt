use Rattle.text.proofs.write.word.Goals as goal

pub returns-in-Pushed-clause-is : goal.returns-in-Pushed-clause-is
returns-in-Pushed-clause-is c = rw c.in-Pushed.is

pub returns-in-Full-clause-is : goal.returns-in-Full-clause-is
returns-in-Full-clause-is c = rw c.in-Full.is

pub returns-in-Popped-clause-is : goal.returns-in-Popped-clause-is
returns-in-Popped-clause-is c = rw c.in-Popped.is

pub returns-in-None-clause-is : goal.returns-in-None-clause-is
returns-in-None-clause-is c = rw c.in-None.is

pub returns-in-Extended-clause-is : goal.returns-in-Extended-clause-is
returns-in-Extended-clause-is c = rw c.in-Extended.is

pub returns-in-Stolen-clause-is : goal.returns-in-Stolen-clause-is
returns-in-Stolen-clause-is c = rw c.in-Stolen.is

pub returns-in-Taken-clause-is : goal.returns-in-Taken-clause-is
returns-in-Taken-clause-is c = rw c.in-Taken.is

pub returns-in-Drain-clause-is : goal.returns-in-Drain-clause-is
returns-in-Drain-clause-is c = rw c.in-Drain.is

pub returns-in-Item-clause-is : goal.returns-in-Item-clause-is
returns-in-Item-clause-is c = rw c.in-Item.is

pub returns-in-Done-clause-is : goal.returns-in-Done-clause-is
returns-in-Done-clause-is c = rw c.in-Done.is

pub returns-in-Closed-clause-is : goal.returns-in-Closed-clause-is
returns-in-Closed-clause-is c = rw c.in-Closed.is

pub returns-in-Busy-clause-is : goal.returns-in-Busy-clause-is
returns-in-Busy-clause-is c = rw c.in-Busy.is

pub returns-in-Empty-clause-is : goal.returns-in-Empty-clause-is
returns-in-Empty-clause-is c = rw c.in-Empty.is

pub returns-in-Spare-clause-is : goal.returns-in-Spare-clause-is
returns-in-Spare-clause-is c = rw c.in-Spare.is

pub returns-in-Yes-clause-is : goal.returns-in-Yes-clause-is
returns-in-Yes-clause-is c = rw c.in-Yes.is

pub returns-in-No-clause-is : goal.returns-in-No-clause-is
returns-in-No-clause-is c = rw c.in-No.is
