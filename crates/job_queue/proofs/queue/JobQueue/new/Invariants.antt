use Rattle.job_queue.proofs.queue.JobQueue.new.Given as goal

abbrev pub ghosts-begin : goal.ghosts-begin
ghosts-begin a = record { image = a.image.now; shares = a.shares }
