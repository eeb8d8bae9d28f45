mod HandedBack
