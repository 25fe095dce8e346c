-- A minute of frames, telemetry and alarms, by computation.
use Rattle.std.proofs.Common.{◌≡◌, ◌++◌, [], ◌∷◌, refl, codes}
use Rattle.std.specs.Fmt.{digits}
use Rattle.dover_model.specs.Common.{Instance, trace, report, table}
use Rattle.dover_model.proofs.rows.Written.{job, one, bytes}

abbrev minute : Instance
minute = one 100 1 (job 0 60 90 60 ∷ job 10 5 30 25 ∷ job 50 5 70 25 ∷ job 65 10 75 1000 ∷ job 100 60 190 60
    ∷ job 110 5 130 25 ∷ job 120 40 170 40
    ∷ job 125 5 145 25 ∷ job 150 10 160 1000 ∷ job 200 80 290 80 ∷ job 210 20 230 2000 ∷ job 215 5 235 25
    ∷ job 300 60 390 60 ∷ job 300 5 320 25
    ∷ job 300 5 320 25 ∷ job 360 30 420 30 ∷ job 380 10 390 1000 ∷ job 400 60 490 60 ∷ job 420 5 440 25
    ∷ job 430 20 470 100
    ∷ job 440 10 450 1000 ∷ job 500 60 590 60 ∷ job 530 5 550 25 ∷ job 560 20 580 2000 ∷ [])

minute_trace : trace minute ≡ bytes
    (codes "dover 1 100 1/job 0 0 60 90 60/run 0 0/job 1 10 5 30 25/preempt 10 0 1/complete 15 1/run 15 0/job 2 50 5 70 25/"
    ++ codes "preempt 50 0 2/complete 55 2/run 55 0/job 3 65 10 75 1000/preempt 65 0 3/complete 75 3/run 75 0/complete 80 0/"
    ++ codes "job 4 100 60 190 60/run 100 4/job 5 110 5 130 25/preempt 110 4 5/complete 115 5/run 115 4/job 6 120 40 170 40/"
    ++ codes "job 7 125 5 145 25/preempt 125 4 7/complete 130 7/run 130 4/abandon 130 6/job 8 150 10 160 1000/preempt 150 4 8/"
    ++ codes "complete 160 8/run 160 4/complete 180 4/job 9 200 80 290 80/run 200 9/job 10 210 20 230 2000/take 210 9 10/"
    ++ codes "job 11 215 5 235 25/abandon 220 9/complete 230 10/run 230 11/complete 235 11/job 12 300 60 390 60/run 300 12/"
    ++ codes "job 13 300 5 320 25/preempt 300 12 13/job 14 300 5 320 25/complete 305 13/run 305 14/complete 310 14/run 310 12/"
    ++ codes "job 15 360 30 420 30/complete 370 12/run 370 15/job 16 380 10 390 1000/preempt 380 15 16/complete 390 16/"
    ++ codes "run 390 15/job 17 400 60 490 60/complete 410 15/run 410 17/job 18 420 5 440 25/preempt 420 17 18/complete 425 18/"
    ++ codes "run 425 17/job 19 430 20 470 100/job 20 440 10 450 1000/preempt 440 17 20/complete 450 20/run 450 17/"
    ++ codes "abandon 450 19/complete 485 17/job 21 500 60 590 60/run 500 21/job 22 530 5 550 25/preempt 530 21 22/"
    ++ codes "complete 535 22/run 535 21/job 23 560 20 580 2000/preempt 560 21 23/complete 580 23/run 580 21/complete 585 21/"
    ++ codes "end 8555/")
unfolding digits
minute_trace = refl

minute_report : report minute ≡ bytes
    (codes "ratio 100 1/jobs 24/completed 21 8555/abandoned 3 220/taken 1/changes 34 12 1/bound 1035155/"
    ++ codes "interval 1 0 80 1110 0 0 0/interval 2 100 180 1110 0 0 40/interval 3 200 230 0 2000 80 80/"
    ++ codes "interval 4 230 235 25 0 0 0/interval 5 300 370 110 0 0 0/interval 6 370 410 1030 0 0 0/"
    ++ codes "interval 7 410 485 1085 0 0 100/interval 8 500 585 2085 0 0 0/")
unfolding digits
minute_report = refl

minute_table : table minute ≡ bytes
    (codes "job,release,work,deadline,value,fate,tick,start,runs/0,0,60,90,60,complete,80,0,4/"
    ++ codes "1,10,5,30,25,complete,15,10,1/2,50,5,70,25,complete,55,50,1/3,65,10,75,1000,complete,75,65,1/"
    ++ codes "4,100,60,190,60,complete,180,100,4/5,110,5,130,25,complete,115,110,1/6,120,40,170,40,abandon,130,,0/"
    ++ codes "7,125,5,145,25,complete,130,125,1/8,150,10,160,1000,complete,160,150,1/9,200,80,290,80,abandon,220,200,1/"
    ++ codes "10,210,20,230,2000,complete,230,210,1/11,215,5,235,25,complete,235,230,1/"
    ++ codes "12,300,60,390,60,complete,370,300,2/13,300,5,320,25,complete,305,300,1/"
    ++ codes "14,300,5,320,25,complete,310,305,1/"
    ++ codes "15,360,30,420,30,complete,410,370,2/16,380,10,390,1000,complete,390,380,1/"
    ++ codes "17,400,60,490,60,complete,485,410,3/18,420,5,440,25,complete,425,420,1/19,430,20,470,100,abandon,450,,0/"
    ++ codes "20,440,10,450,1000,complete,450,440,1/21,500,60,590,60,complete,585,500,3/"
    ++ codes "22,530,5,550,25,complete,535,530,1/23,560,20,580,2000,complete,580,560,1/")
unfolding digits
minute_table = refl
